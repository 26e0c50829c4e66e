-- What keeps the harts apart.
use Rattle.std.proofs.Common.{◌≡◌, ◌≢◌, ◌≤◌, ℕ, refl, sym, le_trans, ◌∙◌}
use Rattle.tm_plan_map.specs.declared.windows.Kind2.{Kind2}
use Rattle.tm_plan_map.specs.declared.windows.Kind2.TheVariants.{True, False, Own}
use Rattle.tm_place.specs.declared.placement.Placement.{Placement}
use Rattle.tm_place.specs.Sharing.{Sharing, StoresAt, LoadsAt}
use Rattle.tm_place.specs.Placed.{sharing_of}
use Rattle.tm_place.specs.Laws.{OneStores, StoresAreLoads, PartsFit}
use Rattle.tm_base.specs.Limits.{image_version}
use Rattle.tm_base.proofs.Rooms.{harts-fit}
use Rattle.tm_place.proofs.PartLemmas.{part_size-fits, part-at}
use Rattle.tm_place.proofs.SpotLemmas.{Sound}
use Rattle.tm_place.proofs.AccessLemmas.{stores-there}

one-stores : (kind : Kind2) (s : Sharing) (g h j r : ℕ) → 1 ≤ s.part → kind ≢ True → StoresAt kind s g j r
    → StoresAt kind s h j r → g ≡ h
one-stores True s g h j r some not a b = absurd (not refl)
one-stores False s g h j r some not a b = sym (part-at r s.part g some a.0 a.1) ∙ part-at r s.part h some b.0 b.1
one-stores Own s g h j r some not a b = sym a ∙ b

stores-load : (kind : Kind2) (s : Sharing) (h j r : ℕ) → StoresAt kind s h j r → LoadsAt kind s h j r
stores-load True s h j r m = tt
stores-load False s h j r m = tt
stores-load Own s h j r m = m

pub one_stores : (s : Sharing) → Sound s → OneStores s
one_stores s sound g h b v j r stands shared a c =
    one-stores v.kind s g h j r sound.some shared (stores-there s g b v j r sound stands a)
    (stores-there s h b v j r sound stands c)

pub stores_are_loads : (s : Sharing) → StoresAreLoads s
stores_are_loads s h b m = record {
  window = m.window;
  line = m.line;
  byte = m.byte;
  stands = m.stands;
  may = stores-load m.window.kind s h m.line m.byte m.may;
}

pub parts_fit : (p : Placement) → PartsFit (sharing_of p)
parts_fit p = rw p.limits.share (part_size-fits p.line p.harts p.limits.size p.limits.count.0
    (le_trans p.limits.count.1 (harts-fit image_version)))
