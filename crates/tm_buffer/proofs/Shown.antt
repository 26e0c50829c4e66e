-- What a machine keeps, told of its value.
use Rattle.std.proofs.Common.{◌≡◌, ℕ, ◌<◌, ◌≤◌, List, Option, None, Some, refl, sym, ap, ◌∙◌, subst, get_or}
use Rattle.std.specs.Prelude.{unwrap_or, slice_index, length}
use Rattle.tm_table.specs.State.{Hart, hart_of as hart_in}
use Rattle.tm_plan_cases.specs.declared.program.Program.{Program}
use Rattle.tm_plan_journal.specs.Journaled.{Journaled}
use Rattle.tm_ram.specs.Region.{Region}
use Rattle.tm_plan_map.specs.Map.{guest_base, guest_end}
use Rattle.tm_world.specs.Lists.{or_else}
use Rattle.tm_world.specs.Place.{harts, image_byte}
use Rattle.tm_guest.specs.Memory.{byte_at}
use Rattle.tm_buffered.specs.Moments.{waiting, memory, left_at, found}
use Rattle.tm_buffer.specs.Buffer.{found_in}
use Rattle.tm_buffer.proofs.Buffers.{same-left}
use Rattle.tm_guest.specs.declared.decoded.Decoded.{Decoded}
use Rattle.tm_guest.proofs.Rows.{Finds, finds}
use Rattle.tm_buffer.specs.declared.hart.BufferedHart.{BufferedHart}
use Rattle.tm_buffer.specs.Listed.{Listed}
use Rattle.tm_buffer.specs.Seen.{Seen, IsHalted, IsRun, moments, moments_of, opened, state}
use Rattle.tm_buffer.specs.Fields.{IsState, IsMemory, Keeps}

pub unwrap-else : (x y : Option ℕ) (d : ℕ) → unwrap_or (or_else x y) d ≡ unwrap_or x (unwrap_or y d)
unwrap-else (Some v) y d = refl
unwrap-else None y d = refl

-- what a machine keeps shows at its value
abbrev pub shown : Program → ℕ → Journaled → Listed → Seen
shown p limit j d = record { program = p; limit = limit; journal = j.events; drains = d.drains }

module _ (v : Seen) (p : Program) (limit : ℕ) (decodes : List Decoded) (states : List BufferedHart) (r : Region)
    (j : Journaled) (d : Listed) (is : shown p limit j d ≡ v) (k : Keeps p limit decodes states r j d) where
  pub memory-shown : IsMemory v.program (moments v) r
  memory-shown = subst (λ (g : Seen). IsMemory g.program (moments g) r) is k.memory

  pub run-shown : IsRun v
  run-shown = subst (λ (g : Seen). IsRun g) is k.goes_on

  pub state-shown : (h : ℕ) (old : BufferedHart) → h < harts v.program → old ≡ get_or states h old
      → IsState (moments v) h old
  state-shown h old below was =
      let l : h < harts p = subst (λ (g : Seen). h < harts g.program) (sym is) below in
      subst (λ (g : Seen). IsState (moments g) h old) is
      (subst (IsState (moments_of p j.events d.drains) h) (sym was) (k.each_hart.each h old l))

  -- A hart that isn't at halt finds its row.
  pub finds-row : (h : ℕ) (old : BufferedHart) → h < harts v.program → old ≡ get_or states h old → (¬ IsHalted v h)
      → Finds v.program (hart_in old.cpu) decodes
  finds-row h old below was off =
      let l : h < harts p = subst (λ (g : Seen). h < harts g.program) (sym is) below in
      let o : ¬ IsHalted (shown p limit j d) h = subst (λ (g : Seen). ¬ IsHalted g h) (sym is) off in
      subst (λ (hart : Hart). Finds v.program hart decodes) (sym (state-shown h old below was).state)
      (subst (λ (g : Seen). Finds g.program (state g h) decodes) is
      (finds p (state (shown p limit j d) h) decodes
      (k.unstuck (opened (moments_of p j.events d.drains)) k.goes_on h l o) k.rows))

  -- What a hart finds: a byte of its buffer, else of memory.
  pub found-shown : (h b : ℕ) (old : BufferedHart) → h < harts v.program → old ≡ get_or states h old → guest_base ≤ b
      → b < guest_end → (o : Option ℕ) → o ≡ found_in b old.buffer.items
      → unwrap_or o (byte_at r b) ≡ found v.program h (moments v) b
  found-shown h b old below was lo hi o e =
      let kept = state-shown h old below was in
      ap (λ (n : ℕ). unwrap_or o n) (memory-shown.bytes b lo hi)
      ∙ (sym (unwrap-else o (left_at b (memory (moments v))) (image_byte v.program b))
      ∙ ap (λ (z : Option ℕ). unwrap_or (or_else z (left_at b (memory (moments v)))) (image_byte v.program b))
      (e ∙ same-left b old.buffer.items (waiting h (moments v)) kept.buffer))
