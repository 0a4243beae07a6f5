-- The definitions that a BLOCKINFO block made, one definition more, and those in force in a block.
use Rattle.std.proofs.Common.{◌≡◌, ℕ, Bool, true, false, cond, List, [], ◌∷◌, ◌++◌, Option, Some, None, length, refl, sym, ap, ◌∙◌, append_assoc, append-nil, arith, nat_eq}
use Rattle.std.specs.Option.{is_some}
use Rattle.std.specs.Global.{Box}
use Rattle.std.proofs.Math.Path.{fun_ext}
use Rattle.bit_grammar.specs.declared.op.Op.{Op}
use Rattle.bit_grammar.specs.Terms.{defined_at}
use Rattle.bit_abbrev.specs.declared.held.HeldList.{HeldList}
use Rattle.bit_abbrev.specs.Groups.{ready_for}
use Rattle.bit_abbrev.specs.HeldLists.{held_for}
use Rattle.bit_abbrev.specs.Ready.{AreReady, InfoLists, later_list, newest_of, table_of}
use Rattle.bit_abbrev.proofs.HeldLists.{defined}
use Rattle.bit_abbrev.proofs.Places.{in_front, behind_all}

pub none_later : (later : Option (Box HeldList)) → is_some later ≡ false → later_list later ≡ []
none_later None none = refl
none_later (Some later) none = absurd cc

-- the last one behind those that are ready
pub newest_any : (ready : List (List Op)) (later : Option (Box HeldList)) (ops : List Op) → newest_of [] later ≡ Some ops → newest_of ready later ≡ Some ops
newest_any ready None ops is = absurd cc
newest_any ready (Some later) ops is = is

pub none_held : (list : List (ℕ × List Op)) (id : ℕ) → length list ≡ 0 → held_for list id ≡ []
none_held [] id none = refl
none_held (e ∷ list) id none = absurd (omega (arith, none))

-- one more that is ready, if there are none behind
pub ready_more : (old new : List (ℕ × List (List Op))) (later : List (ℕ × List Op)) (id : ℕ) (ops : List Op) → later ≡ [] → ((other : ℕ) → ready_for new other ≡ defined_at id ops (ready_for old) other)
    → table_of (record { ready = new; later = later }) ≡ defined_at id ops (table_of (record { ready = old; later = later }))
unfolding table_of
ready_more old new later id ops none more = rw none (fun_ext (λ other. rw (more other) (by (ready_for old other) (nat_eq other id))))
  where
    by : (before : List (List Op)) (b : Bool) → cond b (before ++ ops ∷ []) before ++ [] ≡ cond b ((before ++ []) ++ ops ∷ []) (before ++ [])
    by before true = append-nil (before ++ ops ∷ []) ∙ ap (λ (l : List (List Op)). l ++ ops ∷ []) (sym (append-nil before))
    by before false = refl

-- one more behind those that are ready
pub later_more : (ready : List (ℕ × List (List Op))) (old new : List (ℕ × List Op)) (id : ℕ) (ops : List Op) → new ≡ old ++ (id, ops) ∷ []
    → table_of (record { ready = ready; later = new }) ≡ defined_at id ops (table_of (record { ready = ready; later = old }))
unfolding table_of
later_more ready old new id ops more = rw more (fun_ext (λ other. rw (defined old id ops other) (by (ready_for ready other) (held_for old other) (nat_eq other id))))
  where
    by : (before behind : List (List Op)) (b : Bool) → before ++ cond b (behind ++ ops ∷ []) behind ≡ cond b ((before ++ behind) ++ ops ∷ []) (before ++ behind)
    by before behind true = sym (append_assoc before behind (ops ∷ []))
    by before behind false = refl

-- the same ones behind, in another order
pub same_later : (ready : List (ℕ × List (List Op))) (old new : List (ℕ × List Op)) → ((id : ℕ) → held_for new id ≡ held_for old id) → table_of (record { ready = ready; later = new }) ≡ table_of (record { ready = ready; later = old })
unfolding table_of
same_later ready old new same = fun_ext (λ id. ap (λ (l : List (List Op)). ready_for ready id ++ l) (same id))

-- ---- those of a block

-- some of those of the table and of the own ones are ready
pub are_ready : (lists : InfoLists) (id : ℕ) (own behind : List (List Op)) → AreReady (table_of lists id ++ (own ++ behind)) (ready_for lists.ready id) (length (table_of lists id)) own
unfolding table_of
are_ready lists id own behind = record {
  first = λ i ops at. in_front (ready_for lists.ready id ++ held_for lists.later id) (own ++ behind) i ops (in_front (ready_for lists.ready id) (held_for lists.later id) i ops at);
  behind = λ i ops at. behind_all (ready_for lists.ready id ++ held_for lists.later id) (own ++ behind) i ∙ in_front own behind i ops at;
}

-- the same if there is no table
pub own_ready : (own behind : List (List Op)) → AreReady ([] ++ (own ++ behind)) [] 0 own
own_ready own behind = record {
  first = λ i ops at. in_front [] (own ++ behind) i ops at;
  behind = λ i ops at. behind_all [] (own ++ behind) i ∙ in_front own behind i ops at;
}
