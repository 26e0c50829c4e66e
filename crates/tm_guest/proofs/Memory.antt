-- The memory after one step more.
use Rattle.std.proofs.Common.{ℕ, ◌≤◌, List, ◌∷◌, sym, ap, ◌∙◌, subst, arith}
use Rattle.std.specs.Prelude.{unwrap_or}
use Rattle.tm_plan_cases.specs.declared.program.Program.{Program}
use Rattle.tm_ram.specs.Region.{Region}
use Rattle.tm_world.specs.Place.{image_byte}
use Rattle.tm_world.specs.Run.{Step, access_of, written, last_write}
use Rattle.tm_world.proofs.Options.{unwrap_or-or_else}
use Rattle.tm_guest.specs.Memory.{IsWritten}
use Rattle.tm_guest.specs.Fields.{IsMemory}

pub memory-more : (p : Program) (s : Step) (past : List Step) (r t : Region) → IsWritten r (access_of s) t
    → IsMemory p past r → IsMemory p (s ∷ past) t
memory-more p s past r t w m = record {
  region = record { base = w.base ∙ m.region.base; end = omega (arith, w.base, w.long, m.region.end) };
  bytes = λ b lo hi.
      let from : r.base ≤ b = subst (λ (x : ℕ). x ≤ b) (sym m.region.base) lo in
      w.bytes b from
      ∙ (ap (unwrap_or (written (access_of s) b)) (m.bytes b lo hi)
      ∙ sym (unwrap_or-or_else (written (access_of s) b) (last_write b past) (image_byte p b)));
}
