-- What one step reads and writes, by its effect.
use Rattle.std.proofs.Common.{◌≡◌, inl, inr, ℕ, ◌*◌, ◌%◌, ◌^◌, ◌<◌, sym, subst, arith}
use Rattle.tm_table.specs.State.{Hart}
use Rattle.tm_table.specs.Row.{Effect, Gives, Loads, Stores, Branches, Jumps, after, HasWidth, IsWidth}
use Rattle.tm_world.specs.Run.{Reads, HasShape, IsFitting}
use Rattle.tm_world.specs.Kinds.{IsPossible}
use Rattle.tm_guest.proofs.Acts.{fitting, low-fits}
use Rattle.tm_buffer.specs.Buffer.{LoadsIn, LoadsExactly, owed_by}

pub loads-in : (e : Effect) (hart : Hart) (rd n : ℕ) → HasWidth e
    → ((bytes : ℕ) → IsPossible (after e hart rd n bytes).1) → LoadsIn e
unfolding after
loads-in (Loads addr width with_sign) hart rd n w h = (w, h 0)
loads-in (Gives value) hart rd n w h = tt
loads-in (Stores addr width value) hart rd n w h = tt
loads-in (Branches taken) hart rd n w h = tt
loads-in (Jumps link target) hart rd n w h = tt

pub shape-after : (find : ℕ → ℕ) (e : Effect) (hart : Hart) (rd n read : ℕ) → HasWidth e → LoadsExactly find e read
    → HasShape (after e hart rd n read).1
unfolding after
shape-after find (Loads addr width with_sign) hart rd n read w l = fitting width read w l.small
shape-after find (Stores addr width value) hart rd n read w l = fitting width _ w (low-fits width value w)
shape-after find (Gives value) hart rd n read w l = tt
shape-after find (Branches taken) hart rd n read w l = tt
shape-after find (Jumps link target) hart rd n read w l = tt

pub reads-after : (find : ℕ → ℕ) (e : Effect) (hart : Hart) (rd n read : ℕ) → LoadsExactly find e read
    → Reads (owed_by find) (after e hart rd n read).1
unfolding after
reads-after find (Loads addr width with_sign) hart rd n read l = l.bytes
reads-after find (Gives value) hart rd n read l = tt
reads-after find (Stores addr width value) hart rd n read l = tt
reads-after find (Branches taken) hart rd n read l = tt
reads-after find (Jumps link target) hart rd n read l = tt
