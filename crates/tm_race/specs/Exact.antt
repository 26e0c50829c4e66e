-- The masks as a function of the cases (this project's own). What is checked is said by trails, and need not compute;
-- here a walk over each stream computes it. This serves only to say that equal cases give equal masks.
use Rattle.std.specs.Prelude.{ℕ, zero, suc, ◌+◌, ◌*◌, max, nat_lt, ◌==◌, Bool, true, false, ◌&&◌, ◌||◌, not, map}
use Rattle.std.specs.Prelude.{length, Option, Some, None, if◌then◌else◌}
use Rattle.std.specs.List.{range_with_len}
use Rattle.tm_plan_cases.specs.declared.cases.Cases.{Cases}
use Rattle.tm_plan_cases.specs.declared.masks.Masks.{Masks}
use Rattle.tm_plan_cases.specs.declared.masks.CaseMask.{CaseMask}
use Rattle.tm_plan_cases.specs.Collected.{is_declared, slots_of}
use Rattle.tm_plan_map.specs.Map.{windows_base, windows_size}
use Rattle.tm_base.specs.Lists.{any, count_from}
use Rattle.tm_world.specs.Writers.{may_store}
use Rattle.tm_plan_cases.specs.Streams.{stream_in}
use Rattle.tm_world.specs.Slots.{Slot, slots_in, another_may_store}

-- ---- a walk over slots

-- What is known before a slot: of each resource whether it is race-dependent there; the greatest target of a steered
-- slot before it, or 0; and the greatest target of any branch or JAL before it, or 0.
pub record Walk : Type 0 where
  pub held : ℕ → Bool
  pub steered : ℕ
  pub covered : ℕ

-- the slot writes resource r
abbrev pub is_written : Slot → ℕ → Bool
is_written slot r = any (λ s. s == r) slot.writes

-- the slot reads a race-dependent resource
abbrev pub reads_held : Slot → Walk → Bool
reads_held slot walk = any walk.held slot.reads

-- What slot i writes is race-dependent: it races, it reads what is, or a steered slot covers it.
abbrev pub writes_held : Slot → ℕ → Walk → Bool
writes_held slot i walk = slot.races || (reads_held slot walk || nat_lt i walk.steered)

-- r is race-dependent behind slot i: the slot writes it, and what it writes is; or r was before, and the slot doesn't
-- write it, or a branch or JAL covers the slot.
abbrev pub is_held_after : Slot → ℕ → Walk → ℕ → Bool
is_held_after slot i walk r =
    (is_written slot r && writes_held slot i walk)
    || (walk.held r && (not (is_written slot r) || nat_lt i walk.covered))

-- Slot i is steered, if it is a branch or JAL: it is a branch that reads what is race-dependent, or a steered slot
-- covers it.
abbrev pub is_steered : Slot → ℕ → Walk → Bool
is_steered slot i walk = (slot.decides && reads_held slot walk) || nat_lt i walk.steered

-- the greater of an old target and of a new one, if there is a new one and it counts
abbrev pub reach_with : Option ℕ → (counts : Bool) → ℕ → ℕ
reach_with None counts old = old
reach_with (Some target) counts old = if counts then max old target else old

-- from before slot i to behind it
abbrev pub walk_over : Slot → ℕ → Walk → Walk
walk_over slot i walk = record {
  held = is_held_after slot i walk;
  steered = reach_with slot.target (is_steered slot i walk) walk.steered;
  covered = reach_with slot.target true walk.covered;
}

-- what is known before slot j; before the first slot nothing is race-dependent
unfoldable pub walk_to : (ℕ → Slot) → ℕ → Walk
walk_to stream zero = record { held = λ r. false; steered = 0; covered = 0 }
walk_to stream (suc j) = walk_over (stream j) j (walk_to stream j)

-- ---- masks

-- resource r is race-dependent at the end of hart h's stream of case c
unfoldable pub is_held : Cases → (c h r : ℕ) → Bool
is_held cases c h r = (walk_to (slots_in cases c h) (slots_of (stream_in cases c h))).held r

-- the number whose bit r, below n, is set where r passes the test
unfoldable pub bits_of : (ℕ → Bool) → (n : ℕ) → ℕ
bits_of test zero = 0
bits_of test (suc n) = (if test 0 then 1 else 0) + 2 * bits_of (λ r. test (suc r)) n

-- hart h's word in case c: a bit for each of x1 to x30 that isn't race-dependent at the end of the hart's stream
unfoldable pub checked_word : Cases → (c h : ℕ) → ℕ
checked_word cases c h = bits_of (λ r. nat_lt 0 r && not (is_held cases c h r)) 31

-- Hart h keeps byte b from being checked in case c: it may write b, and another hart may, or b is race-dependent at
-- the end of its stream.
abbrev pub keeps_out : Cases → (c b h : ℕ) → Bool
keeps_out cases c b h = may_store cases c h b && (another_may_store cases c h b || is_held cases c h b)

-- byte b is checked in case c: it is declared, and no hart keeps it out
abbrev pub is_checked : Cases → (c b : ℕ) → Bool
is_checked cases c b = is_declared cases b && not (any (keeps_out cases c b) (count_from 0 cases.harts))

-- the mark of byte q of the windows: 255 where it is checked, else 0
unfoldable pub checked_mark : Cases → (c q : ℕ) → ℕ
checked_mark cases c q = if is_checked cases c (windows_base + q) then 255 else 0

-- the mask of case c: a word for each hart, and a mark for each byte of the windows
unfoldable pub mask_of : Cases → (c : ℕ) → CaseMask
mask_of cases c = record {
  regs = map (checked_word cases c) (range_with_len 0 cases.harts);
  bytes = map (checked_mark cases c) (range_with_len 0 windows_size);
}

-- the masks of cases: one for each case
unfoldable pub masks_of : Cases → Masks
masks_of cases = record { cases = map (mask_of cases) (range_with_len 0 (length cases.cases)) }
