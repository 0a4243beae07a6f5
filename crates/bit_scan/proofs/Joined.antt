-- Printing the items of a JSON list.
use Rattle.std.proofs.Common.{ℕ, ◌+◌, ◌<◌, ◌≤◌, List, [], ◌++◌, length, get_or, drop, ap}
use Rattle.std.proofs.lemmas.List.{drop_all}
use Rattle.bit_scan.specs.Json.{comma, joined_from}
use Rattle.bit_scan.specs.Printing.{Printing, Printed}
use Rattle.bit_scan.proofs.Prints.{Goes, goes_as, goes_ends}
use Rattle.bit_scan.proofs.Reports.{drop_first}

pub next_item : {A : Type 0} (text : A → List ℕ) (whole : List ℕ) (old now : Printing) (xs : List A) (i : ℕ) (x : A) → i < length xs → Goes whole old (joined_from text i (drop i xs)) now
    → Goes whole old ((comma i ++ text (get_or xs i x)) ++ joined_from text (i + 1) (drop (i + 1) xs)) now
next_item text whole old now xs i x h g = goes_as whole old (joined_from text i (drop i xs)) ((comma i ++ text (get_or xs i x)) ++ joined_from text (i + 1) (drop (i + 1) xs)) now (ap (joined_from text i) (drop_first xs i x h)) g

pub last_item : {A : Type 0} (text : A → List ℕ) (whole : List ℕ) (old now : Printing) (xs : List A) (place i : ℕ) → length xs ≤ i → Goes whole old (joined_from text place (drop i xs)) now → Printed whole old now
last_item text whole old now xs place i h g = goes_ends whole old now (goes_as whole old (joined_from text place (drop i xs)) [] now (ap (joined_from text place) (drop_all i xs h)) g)
