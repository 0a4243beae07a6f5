-- Look-ups among sorted names.
use Rattle.std.proofs.Common.{◌≡◌, ℕ, Bool, List, [], ◌∷◌, map, Option, Some, refl, sym, ap, subst, ◌∙◌, ◌==◌}
use Rattle.std.specs.Prelude.{◌&&◌, IfSome}
use Rattle.std.specs.List.{list_any}
use Rattle.std.proofs.lemmas.Bool.{ne_eqb}
use Rattle.std.proofs.lemmas.Cmp.{nat_eq_equiv}
use Rattle.std.specs.Cmp.{unsigned_tied, tied_then}
use Rattle.std.specs.Ordering.{nat_cmp, eq_by_cmp}
use Rattle.std.specs.Set.{is_member}
use Rattle.bit_grammar.specs.declared.info.RecordName.{RecordName}
use Rattle.bit_grammar.specs.Setting.{Setting, is_named}
use Rattle.bit_events.specs.declared.names.Ordered.{Ordered}
use Rattle.bit_events.specs.Named.{HasNames, pair_cmp, block_of, pair_of}

pub in_order : (s : Setting) (o : Option Ordered) (x : Ordered) → o ≡ Some x → IfSome o (HasNames s) → HasNames s x
in_order s o x is h = subst (λ (o : Option Ordered). IfSome o (HasNames s)) is h

is_id : (id x : ℕ) → eq_by_cmp nat_cmp id x ≡ (x == id)
is_id id x = unsigned_tied id x ∙ nat_eq_equiv.symm id x

is_pair : (block code : ℕ) (name : RecordName) → eq_by_cmp pair_cmp (block, code) (pair_of name) ≡ ((name.block == block) && (name.code == code))
is_pair block code name =
    sym (tied_then (nat_cmp block name.block) (nat_cmp code name.code)) ∙ ap (λ (b : Bool). b && eq_by_cmp nat_cmp code name.code) (is_id block name.block) ∙ ap (λ (b : Bool). (name.block == block) && b) (is_id code name.code)

pub ids_found : (ids : List ℕ) (id : ℕ) → is_member (eq_by_cmp nat_cmp) ids id ≡ list_any (λ x. x == id) ids
ids_found [] id = refl
ids_found (x ∷ ids) id = rw (is_id id x, ids_found ids id) refl

pub holders_found : (records : List RecordName) (id : ℕ) → is_member (eq_by_cmp nat_cmp) (map block_of records) id ≡ list_any (λ name. name.block == id) records
holders_found [] id = refl
holders_found (name ∷ records) id = rw (is_id id name.block, holders_found records id) refl

pub records_found : (records : List RecordName) (block code : ℕ) → (block ≡ 0 → ⊥) → is_member (eq_by_cmp pair_cmp) (map pair_of records) (block, code) ≡ list_any (is_named block code) records
records_found [] block code other = refl
records_found (name ∷ records) block code other = rw (is_pair block code name, records_found records block code other, ne_eqb block 0 other) refl
