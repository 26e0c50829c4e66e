-- What a placement shares (this project's own).
use Rattle.std.specs.Prelude.{ℕ, List, Option, Some, None, slice_get}
use Rattle.tm_plan_map.specs.declared.windows.Window.{Window}
use Rattle.tm_place.specs.declared.placement.Placement.{Placement}
use Rattle.tm_place.specs.Sharing.{Sharing}

-- the window that stands at a place, if one does
abbrev pub standing : Option (Option Window) → Option Window
standing None = None
standing (Some None) = None
standing (Some (Some v)) = Some v

-- the sharing of a shape, in which window w stands at place w
abbrev pub sharing_by : (harts line part : ℕ) → List (Option Window) → Sharing
sharing_by harts line part shape = record {
  harts = harts;
  line = line;
  part = part;
  window = λ w. standing (slice_get shape w);
}

-- the sharing of a placement
abbrev pub sharing_of : Placement → Sharing
sharing_of p = sharing_by p.harts p.line p.part p.shape
