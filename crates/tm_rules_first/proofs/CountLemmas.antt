-- The slots that statements stand for.
use Rattle.std.proofs.Common.{◌≡◌, ◌+◌, ◌<◌, ◌≤◌, ◌^◌, ◌-◌, min, ℕ, List, [], ◌∷◌, ◌++◌, length, get_or, take, drop}
use Rattle.std.proofs.Common.{refl, sym, ap, ◌∙◌, arith}
use Rattle.std.proofs.lemmas.List.{take_more, take-append-drop}
use Rattle.tm_base.specs.declared.limits.TheConstants.{MOST_SLOTS}
use Rattle.tm_tmpl_types.specs.declared.template.SlotDecl.{SlotDecl}
use Rattle.tm_rules_first.specs.Rules.{slots_in, total_slots, slot_count}

total-append : (xs ys : List SlotDecl) → total_slots (xs ++ ys) ≡ total_slots xs + total_slots ys
unfolding total_slots
total-append [] ys = omega arith
total-append (x ∷ xs) ys = omega (arith, total-append xs ys)

total-one : (d : SlotDecl) → total_slots (d ∷ []) ≡ slots_in d.what
unfolding total_slots
total-one d = omega arith

pub total-none : total_slots [] ≡ 0
unfolding total_slots
total-none = refl

pub total-more : (ds : List SlotDecl) (k : ℕ) (d : SlotDecl) → k < length ds → d ≡ get_or ds k d
    → total_slots (take (k + 1) ds) ≡ total_slots (take k ds) + slots_in d.what
total-more ds k d within is =
    let more : take (k + 1) ds ≡ take k ds ++ d ∷ [] =
    take_more ds k d within ∙ ap (λ y. take k ds ++ y ∷ []) (sym is) in
    rw (more, total-append, total-one) refl

pub total-within : (ds : List SlotDecl) (k : ℕ) (d : SlotDecl) → k < length ds → d ≡ get_or ds k d
    → total_slots (take k ds) + slots_in d.what ≤ total_slots ds
total-within ds k d within is =
    let whole : total_slots (take (k + 1) ds) + total_slots (drop (k + 1) ds) ≡ total_slots ds =
    sym (total-append (take (k + 1) ds) (drop (k + 1) ds)) ∙ ap total_slots (take-append-drop (k + 1) ds) in
    omega (arith, total-more ds k d within is)

pub count-none : slot_count [] ≡ 0
unfolding slot_count
count-none = rw total-none refl

pub count-more : (ds : List SlotDecl) (k : ℕ) (d : SlotDecl) → k < length ds → d ≡ get_or ds k d
    → slot_count (take (k + 1) ds) ≡ min (slot_count (take k ds) + slots_in d.what) (2 ^ 64 - 1)
unfolding slot_count
count-more ds k d within is = rw (total-more ds k d within is) (omega arith)

-- a count of a body that may stand is the sum itself
pub count-small : (ds : List SlotDecl) → slot_count ds ≤ MOST_SLOTS → total_slots ds ≡ slot_count ds
unfolding slot_count
count-small ds few = omega arith
