-- What a machine keeps after an event and after a drain, as it stores them.
use Rattle.std.proofs.Common.{◌≡◌, ℕ, ◌<◌, List, [], ◌∷◌, ◌++◌, sym, ap, ◌∙◌, subst, length}
use Rattle.std.specs.Prelude.{Contains, reverse}
use Rattle.tm_plan_cases.specs.declared.program.Program.{Program}
use Rattle.tm_plan_cases.specs.declared.event.Event.{Event}
use Rattle.tm_plan_journal.specs.Journaled.{Journaled}
use Rattle.tm_ram.specs.Region.{Region}
use Rattle.tm_guest.specs.declared.decoded.Decoded.{Decoded}
use Rattle.tm_buffered.specs.Moments.{Entry}
use Rattle.tm_buffer.specs.declared.drains.DrainEntry.{DrainEntry}
use Rattle.tm_buffer.specs.declared.hart.BufferedHart.{BufferedHart}
use Rattle.tm_buffer.specs.Listed.{Drain, Listed, Stored, hart_at, with_harts}
use Rattle.tm_buffer.specs.Seen.{Seen, buffer, with_event}
use Rattle.tm_buffer.specs.Fields.{Keeps, KeepsStored}
use Rattle.tm_buffer.proofs.Naming.{AreMade, named-same, made-event, named-more, made-drain, waiting-of}
use Rattle.tm_buffer.proofs.Shown.{shown}
use Rattle.tm_buffer.proofs.Stepping.{longer}

pub stored-event : (p : Program) (limit : ℕ) (decodes : List Decoded) (states : List BufferedHart) (r : Region)
    (j : Journaled) (d : Stored) (e : Event) → AreMade (length j.events) d.entries
    → Keeps p limit decodes states r (longer j e) (with_harts j.events d)
    → KeepsStored p limit decodes states r (longer j e) d
stored-event p limit decodes states r j d e made k = record {
  keeps = subst (λ (l : Listed). Keeps p limit decodes states r (longer j e) l)
      (ap (λ (xs : List Drain). record { drains = xs; room = d.room }) (sym (named-same j.events e d.entries made))) k;
  made = made-event j.events e d.entries made;
}

pub shown-event : (p : Program) (limit : ℕ) (j t : Journaled) (d : Stored) (e : Event)
    → AreMade (length j.events) d.entries → t ≡ longer j e
    → shown p limit t (with_harts t.events d) ≡ with_event (shown p limit j (with_harts j.events d)) e
shown-event p limit j t d e made is =
    ap (λ (x : Journaled). shown p limit x (with_harts x.events d)) is
    ∙ ap (λ (xs : List Drain). record { program = p; limit = limit; journal = j.events ++ e ∷ []; drains = xs })
    (named-same j.events e d.entries made)

-- A write that waits in hart h's buffer has an event, which is of hart h.
pub its-event : (v : Seen) (p : Program) (limit h : ℕ) (j : Journaled) (d : Listed) → shown p limit j d ≡ v
    → (x : Entry) (w : ℕ) → Contains (buffer v h) x → x.number ≡ w
    → (w < length j.events) × (hart_at (reverse j.events) w ≡ h)
its-event v p limit h j d is x w c number =
    subst (λ (n : ℕ). (n < length j.events) × (hart_at (reverse j.events) n ≡ h)) number
    (waiting-of p j.events d.drains h x (subst (λ (g : Seen). Contains (buffer g h) x) (sym is) c))

pub stored-drain : (p : Program) (limit h : ℕ) (decodes : List Decoded) (states : List BufferedHart) (r : Region)
    (j : Journaled) (d t : Stored) (x : DrainEntry) → AreMade (length j.events) d.entries
    → (x.write < length j.events) × (hart_at (reverse j.events) x.write ≡ h)
    → t ≡ record { entries = d.entries ++ x ∷ []; room = d.room }
    → Keeps p limit decodes states r j (record {
      drains = (with_harts j.events d).drains ++ record { after = x.after; hart = h; write = x.write } ∷ [];
      room = d.room;
    })
    → KeepsStored p limit decodes states r j t
stored-drain p limit h decodes states r j d t x made its is k = record {
  keeps = subst (λ (l : Listed). Keeps p limit decodes states r j l) (sym (named-more j.events d t x h its.1 is)) k;
  made = subst (λ (s : Stored). AreMade (length j.events) s.entries) (sym is)
      (made-drain (length j.events) d.entries x made its.0);
}
