-- Each file that is built is opened again (this project's own).
use Rattle.std.specs.Prelude.{ℕ, ◌≡◌, ◌≤◌, ◌<◌, ◌^◌, List, length, Ok}
use Rattle.tm_base.specs.declared.limits.TheConstants.{TOPOLOGY_BYTES, TEMPLATE_BYTES}
use Rattle.tm_image_build.specs.Built.{built}
use Rattle.tm_image_build.specs.Opened.{opened}

-- the file that is built of two texts within the limits and a seed of 64 bits is what it is opened as
abbrev pub IsOpenedAgain : (topo template : List ℕ) → Type 0
IsOpenedAgain topo template = (seed : ℕ) (file : List ℕ) → seed < 2 ^ 64 → length topo ≤ TOPOLOGY_BYTES
    → length template ≤ TEMPLATE_BYTES
    → built topo template seed ≡ Ok file → opened file ≡ Ok file
