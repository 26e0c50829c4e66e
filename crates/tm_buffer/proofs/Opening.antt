-- What a machine keeps before its first step.
use Rattle.std.proofs.Common.{◌≡◌, ℕ, ◌≤◌, ◌<◌, List, [], ◌∷◌, refl, sym, ap, subst, length, get_or, arith}
use Rattle.std.proofs.Common.{suc}
use Rattle.tm_base.specs.declared.limits.TheConstants.{MOST_EVENTS}
use Rattle.tm_plan_cases.specs.declared.program.Program.{Program}
use Rattle.tm_plan_cases.specs.Shaped.{IsProgram}
use Rattle.tm_ram.specs.Region.{Region}
use Rattle.tm_guest.specs.declared.decoded.Decoded.{Decoded}
use Rattle.tm_guest.specs.Fields.{AreDecoded, IsMemory as IsPlainMemory}
use Rattle.tm_guest.proofs.Opening.{is-opening}
use Rattle.tm_buffer.specs.declared.hart.BufferedHart.{BufferedHart}
use Rattle.tm_buffer.specs.declared.hart.Waiting.{Waiting}
use Rattle.tm_buffer.specs.Buffer.{AreWaiting}
use Rattle.tm_buffer.specs.Start.{AreOpened}
use Rattle.tm_buffer.specs.Seen.{moments_of, NeverStuck}
use Rattle.tm_buffer.specs.Fields.{in_buffers, Keeps}

none-in : (states : List BufferedHart) → ((h : ℕ) (d : BufferedHart) → h < length states
    → (get_or states h d).buffer.items ≡ []) → in_buffers states ≡ 0
none-in [] e = refl
none-in (s ∷ more) e =
    let here : length s.buffer.items ≡ 0 = ap (λ (ws : List Waiting). length ws) (e 0 s (omega arith)) in
    let rest = none-in more (λ h d l. e (suc h) d (omega arith)) in
    omega arith

pub keeps-fresh : (p : Program) (limit : ℕ) (decodes : List Decoded) (states : List BufferedHart) (r : Region)
    → IsProgram p → NeverStuck p → limit ≤ MOST_EVENTS → AreDecoded p.text decodes → AreOpened p.cases.harts states
    → IsPlainMemory p [] r
    → Keeps p limit decodes states r (record { events = []; room = limit }) (record { drains = []; room = limit })
unfolding moments_of
keeps-fresh p limit decodes states r shaped never few rows opened memory =
    let none = none-in states (λ h d l. (opened.each h d (subst (λ (n : ℕ). h < n) opened.count l)).empty) in
    record {
      program = shaped;
      unstuck = never;
      few = few;
      room = refl;
      within = omega arith;
      space = refl;
      each_once = omega arith;
      early = tt;
      rows = rows;
      each_hart = record {
        count = opened.count;
        each = λ h d l.
            let o = opened.each h d l in
            record { state = o.state; buffer = subst (λ (ws : List Waiting). AreWaiting ws []) (sym o.empty) tt };
      };
      memory = record { region = memory.region; bytes = memory.bytes };
      goes_on = record {
        paths = record {
          opening = λ h l. is-opening h (omega (arith, shaped.cases.harts));
          only = tt;
          each = λ h l. tt;
        };
        moments = tt;
      };
    }
