-- The streams of a formed program: where a slot stands, and what a legal step of it does.
use Rattle.std.proofs.Common.{◌≡◌, ℕ, ◌+◌, ◌-◌, ◌*◌, ◌/◌, ◌%◌, ◌^◌, ◌<◌, ◌≤◌, List, [], ◌∷◌, zero, suc, length, Bool}
use Rattle.std.proofs.Common.{true, false, ◌&&◌, ◌==◌, None, Some, refl, sym, ap, ◌∙◌}
use Rattle.std.proofs.Common.{arith, eqb-true, get_or}
use Rattle.std.specs.Prelude.{Contains, slice_index, slice_get, if◌then◌else◌}
use Rattle.std.proofs.lemmas.Bool.{and_parts, or_left, or_right, leb-true, ltb-true}
use Rattle.std.proofs.lemmas.Option.{slice_get-get_or}
use Rattle.tm_table.specs.declared.instr.Instr.{Instr}
use Rattle.tm_table.specs.State.{Hart}
use Rattle.tm_table.specs.Row.{word64}
use Rattle.tm_plan_cases.specs.declared.program.Program.{Program}
use Rattle.tm_plan_cases.specs.declared.cases.Cases.{Cases}
use Rattle.tm_plan_cases.specs.declared.cases.Stream.{Stream}
use Rattle.tm_plan_map.specs.declared.windows.Window.{Window}
use Rattle.tm_plan_map.specs.Map.{text_base, window_at, windows_base, windows_size}
use Rattle.tm_plan_map.specs.Slots.{instr_of}
use Rattle.tm_plan_cases.specs.Collected.{is_declared, declares}
use Rattle.tm_base.specs.Lists.{any}
use Rattle.tm_plan_cases.specs.Shaped.{IsShapedSlot, IsShapedWindow}
use Rattle.tm_world.specs.Place.{harts, start_of, end_of, inside, is_text, is_window, word_at}
use Rattle.tm_plan_cases.specs.Streams.{stream_in}
use Rattle.tm_world.proofs.Streams.{shaped-stream}
use Rattle.tm_runs.proofs.Places.{word-place}
use Rattle.tm_plan_map.proofs.Within.{within-parts, within-true}
use Rattle.tm_legal.specs.Tame.{Formed}
use Rattle.tm_legal.proofs.Formed.{formed-sizes}

-- ---- lists

-- ---- streams

-- ---- where a slot stands

pub word-aligned : (p : Program) (pc w : ℕ) → word_at p pc ≡ Some w → pc % 4 ≡ 0
word-aligned p pc w e = by ((pc % 4 == 0) && is_text p pc) refl e
  where
    by : (b : Bool) → ((pc % 4 == 0) && is_text p pc) ≡ b
        → (if b then slice_get p.text ((pc - text_base) / 4) else None) ≡ Some w → pc % 4 ≡ 0
    by true q r = eqb-true _ _ (and_parts (pc % 4 == 0) (is_text p pc) q).0
    by false q r = cc

-- slot n of stream (h, c), with instruction i, stands at pc
pub record Slot (p : Program) (h c : ℕ) (stream : Stream) (pc w : ℕ) : Type 0 where
  pub number : ℕ
  pub instr : Instr
  pub few : number < length stream.words
  pub at : pc ≡ start_of p h c + 4 * number
  pub word : slice_get stream.words number ≡ Some w
  pub is : instr_of w ≡ Some instr
  pub shaped : IsShapedSlot p.cases (length stream.words) number instr
  pub long : end_of p h c ≡ start_of p h c + 4 * length stream.words
  pub aligned : start_of p h c % 4 ≡ 0
  pub near : start_of p h c + 4 * length stream.words < 2 ^ 63

pub inside-parts : (p : Program) (h c pc : ℕ) → inside p h c pc ≡ true → (start_of p h c ≤ pc) × (pc < end_of p h c)
inside-parts p h c pc e = let q = and_parts _ _ e in (leb-true _ _ q.0, ltb-true _ _ q.1)

pub slot-at : (p : Program) → Formed p → (h c : ℕ) (stream : Stream) → h < harts p → stream_in p.cases c h ≡ Some stream
    → (pc w : ℕ) → inside p h c pc ≡ true → word_at p pc ≡ Some w → Slot p h c stream pc w
slot-at p formed h c stream l e pc w i at =
    let shaped = shaped-stream p.cases c h stream formed.program.cases e in
    let bounds = inside-parts p h c pc i in
    let long = formed.laid.long h c stream l e in
    let stands : (k : ℕ) → k < length stream.words → (word_at p (start_of p h c + 4 * k) ≡ slice_get stream.words k)
    × (slice_get stream.words k ≡ Some (get_or stream.words k 0)) =
    λ k m. (formed.laid.words h c k stream l e m, slice_get-get_or stream.words k 0 m) in
    let first = stands 0 shaped.some in
    let even : (start_of p h c + 4 * 0) % 4 ≡ 0 = word-aligned p _ _ (first.0 ∙ first.1) in
    let aligned : start_of p h c % 4 ≡ 0 = omega arith in
    let four : pc % 4 ≡ 0 = word-aligned p pc w at in
    let n = (pc - start_of p h c) / 4 in
    let place : pc ≡ start_of p h c + 4 * n = omega arith in
    let few : n < length stream.words = omega arith in
    let is : slice_get stream.words n ≡ Some w = sym (stands n few).0 ∙ (ap (word_at p) (sym place) ∙ at) in
    let slot = shaped.slots n w is in
    let reach = word-place p _ _ (formed-sizes formed) (first.0 ∙ first.1) in
    let short = shaped.few in
    record {
      number = n;
      instr = slot.0;
      few = few;
      at = place;
      word = is;
      is = slot.1;
      shaped = slot.2;
      long = long;
      aligned = aligned;
      near = omega arith;
    }

-- ---- what a slot does

-- the window bases are in their registers
abbrev pub IsBased : Hart → Type 0
IsBased hart = (w : ℕ) → w < 3 → slice_index hart.x (28 + w) ≡ window_at w

-- forward, to a slot of the stream or to its end
pub record Onward (pc start end to : ℕ) : Type 0 where
  pub least : pc + 4 ≤ to
  pub from : start ≤ to
  pub most : to ≤ end
  pub aligned : to % 4 ≡ 0

pub next : (start len k pc : ℕ) → pc ≡ start + 4 * k → start % 4 ≡ 0 → start + 4 * len < 2 ^ 63 → k < len
    → Onward pc start (start + 4 * len) (word64 (pc + 4))
next start len k pc e a near l = record {
  least = omega arith;
  from = omega arith;
  most = omega arith;
  aligned = omega arith;
}

pub goes-on : (start len k pc n : ℕ) → pc ≡ start + 4 * k → start % 4 ≡ 0 → start + 4 * len < 2 ^ 63 → n % 4 ≡ 0
    → k < k + n / 4 → k + n / 4 ≤ len → Onward pc start (start + 4 * len) (word64 (pc + n))
goes-on start len k pc n e a near d l m =
    let q = n / 4 in
    let f : n ≡ 4 * q = omega arith in
    record { least = omega arith; from = omega arith; most = omega arith; aligned = omega arith }

-- the bytes of a declared line are bytes of the windows
pub declared-window : (line b : ℕ) (w : Window) → IsShapedWindow line w → declares line b w ≡ true → is_window b ≡ true
unfolding window_at windows_base windows_size
declared-window line b w s e =
    let q = within-parts (window_at w.number) (w.lines * line) b e in
    within-true windows_base windows_size b (omega (arith, s.number, s.few, q)) (omega (arith, s.number, s.few, q))

pub any-one : (test : Window → Bool) (ws : List Window) (w : Window) (k : ℕ) → k < length ws → get_or ws k w ≡ w
    → test w ≡ true → any test ws ≡ true
any-one test [] w k l e t = absurd (omega arith)
any-one test (v ∷ ws) w zero l e t = or_left (test v) (any test ws) (ap test e ∙ t)
any-one test (v ∷ ws) w (suc k) l e t = or_right (test v) (any test ws) (any-one test ws w k (omega arith) e t)

-- and shared bytes
pub window-declared : (cases : Cases) (b : ℕ) (w : Window) → Contains cases.windows w → declares cases.line b w ≡ true
    → is_declared cases b ≡ true
unfolding is_declared
window-declared cases b w c e = any-one (declares cases.line b) cases.windows w c.0 c.1 c.2 e
