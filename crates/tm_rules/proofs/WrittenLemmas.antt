-- What is written out statement by statement.
use Rattle.std.proofs.Common.{◌≡◌, ◌+◌, ◌<◌, ℕ, List, [], ◌∷◌, ◌++◌, length, get_or, take, refl, sym}
use Rattle.std.proofs.Common.{ap, ◌∙◌}
use Rattle.std.specs.Prelude.{flat_map}
use Rattle.std.proofs.lemmas.List.{take_more, append-nil}
use Rattle.std.proofs.lemmas.Grind.{flat_map-append}
use Rattle.tm_tmpl_types.specs.declared.template.SlotDecl.{SlotDecl}
use Rattle.tm_rules.specs.Admitting.{slots_of, written_out}

-- the elements before the next place, and the one there
taken : {A : Type 0} (xs : List A) (k : ℕ) (d x : A) → k < length xs → x ≡ get_or xs k d
    → take (k + 1) xs ≡ take k xs ++ x ∷ []
taken xs k d x within is = take_more xs k d within ∙ ap (λ y. take k xs ++ y ∷ []) (sym is)

pub written-none : written_out [] ≡ []
unfolding written_out
written-none = refl

pub written-more : (ds : List SlotDecl) (k : ℕ) (d : SlotDecl) → k < length ds → d ≡ get_or ds k d
    → written_out (take (k + 1) ds) ≡ written_out (take k ds) ++ slots_of d.what
unfolding written_out
written-more ds k d within is =
    rw (taken ds k d d within is) (flat_map-append (λ e. slots_of e.what) (take k ds) (d ∷ []) ∙ ap
    (λ ys. flat_map (λ e. slots_of e.what) (take k ds) ++ ys) (append-nil (slots_of d.what)))
