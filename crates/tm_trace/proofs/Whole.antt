-- The whole text of a trace is read back.
use Rattle.std.proofs.Common.{◌≡◌, ◌∙◌, ◌≤◌, ◌<◌, ◌+◌, ◌%◌, ◌^◌, ◌==◌, ℕ, suc, true}
use Rattle.std.proofs.Common.{cond, refl, ap}
use Rattle.std.proofs.Common.{arith, List, [], ◌∷◌, ◌++◌, length, Some, Ok, Err, inl, inr, append_assoc}
use Rattle.std.proofs.Common.{nat_lt}
use Rattle.std.proofs.Common.{All, Result, codes}
use Rattle.std.specs.Fmt.{decimal}
use Rattle.std.proofs.lemmas.Bool.Decides.{nat_tests}
use Rattle.tm_base.specs.declared.limits.TheConstants.{HART_ROOM, MOST_EVENTS}
use Rattle.tm_table.specs.Row.{IsWidth}
use Rattle.tm_table.specs.declared.state.Access.{Access}
use Rattle.tm_table.specs.declared.state.Access.TheVariants as access
use Rattle.tm_plan_cases.specs.declared.event.Event.{Event}
use Rattle.tm_trace.specs.declared.trace.TraceFault.{TraceFault}
use Rattle.tm_trace.specs.declared.trace.TraceFault.TheVariants.{OutOfRange}
use Rattle.tm_trace.specs.declared.fields.TheConstants.{DECIMAL_END}
use Rattle.tm_trace.specs.Text.{event_text, events_text, head_text, trace_text}
use Rattle.tm_trace.specs.Traced.{IsPlaced, HasPlace, IsTraced, IsTrace}
use Rattle.tm_trace.specs.Fields.{Field, ◌>>=◌, word_field, decimal_behind, head_field}
use Rattle.tm_trace.specs.Reading.{Reading, is_width, is_placed, has_place, is_in_range, access_of, event_of}
use Rattle.tm_trace.specs.Reading.{event_reading}
use Rattle.tm_trace.specs.Reading.{next_event, more, then_more, events_from, ending, whole, is_head}
use Rattle.tm_trace.specs.Reading.{behind_head, trace_of}
use Rattle.tm_trace.specs.Laws.{HasAddress, IsTyped, ReadsBack}
use Rattle.tm_trace.proofs.Printed.{decimal_back}
use Rattle.tm_trace.proofs.Back.{IsSmall, IsRanged, touch_of, line_of, line_back}
use Rattle.std.proofs.lemmas.Bool.{lt-ltb}

-- ---- an event's ranges

width_is : (n : ℕ) → IsWidth n → is_width n ≡ true
width_is n (inl e) = rw e refl
width_is n (inr (inl e)) = rw e refl
width_is n (inr (inr (inl e))) = rw e refl
width_is n (inr (inr (inr e))) = rw e refl

width_low : (n : ℕ) → IsWidth n → n ≤ 8
width_low n (inl e) = omega (arith, e)
width_low n (inr (inl e)) = omega (arith, e)
width_low n (inr (inr (inl e))) = omega (arith, e)
width_low n (inr (inr (inr e))) = omega (arith, e)

value_low : (n v : ℕ) → IsWidth n → v < 256 ^ n → v < 2 ^ 64
value_low n v (inl e) low = let l = rw e at low in omega (arith, l)
value_low n v (inr (inl e)) low = let l = rw e at low in omega (arith, l)
value_low n v (inr (inr (inl e))) low = let l = rw e at low in omega (arith, l)
value_low n v (inr (inr (inr e))) low = let l = rw e at low in omega (arith, l)

zero_is : (a : ℕ) → a ≡ 0 → (a == 0) ≡ true
zero_is a e = rw e refl

place_in_range : (a w v : ℕ) → IsPlaced a w v → is_placed (record { addr = a; width = w; value = v }) ≡ true
place_in_range a w v p = rw (width_is w p.wide, zero_is (a % w) p.aligned, lt-ltb v (256 ^ w) p.fits) refl

touch_in_range : (a : Access) → HasPlace a → has_place (touch_of a) ≡ true
touch_in_range access.Quiet p = refl
touch_in_range (access.Read addr width value) p = place_in_range addr width value p
touch_in_range (access.Write addr width value) p = place_in_range addr width value p

small : (a : Access) → HasPlace a → HasAddress a → IsSmall a
small access.Quiet p h = tt
small (access.Read addr width value) p h =
    let low = width_low width p.wide in (h, omega (arith, low), value_low width value p.wide p.fits)
small (access.Write addr width value) p h =
    let low = width_low width p.wide in (h, omega (arith, low), value_low width value p.wide p.fits)

same_access : (a : Access) → access_of (touch_of a) ≡ a
same_access access.Quiet = refl
same_access (access.Read addr width value) = refl
same_access (access.Write addr width value) = refl

-- ---- events

event_back : (n line : ℕ) (e : Event) (rest : List ℕ) → n ≤ HART_ROOM → IsTraced n e → IsTyped e
    → next_event n line (event_text e ++ rest) ≡ Ok (e, rest)
unfolding next_event
event_back n line e rest few t y =
    let hart = t.hart in
    let ranged : IsRanged e = record {
      hart = omega (arith, hart, few);
      pc = y.pc;
      word = y.word;
      access = small e.access t.access y.access;
    } in
    let within : is_in_range n (line_of e) ≡ true =
    rw (lt-ltb e.hart n t.hart, touch_in_range e.access t.access) refl in
    ap (event_reading n line (event_text e ++ rest)) (line_back e rest ranged)
    ∙ (ap (λ b. cond {A = Reading Event} b (Ok (event_of (line_of e), rest)) (Err (OutOfRange line))) within
    ∙ ap (λ (a : Access). Ok (record { hart = e.hart; pc = e.pc; word = e.word; access = a }, rest))
    (same_access e.access))

events_back : (es : List Event) (n line : ℕ) (rest : List ℕ) → n ≤ HART_ROOM → All (IsTraced n) es → All IsTyped es
    → events_from (length es) n line (events_text es ++ rest) ≡ Ok (es, rest)
unfolding events_from
events_back [] n line rest few t y = refl
events_back (e ∷ es) n line rest few t y =
    ap (λ bs. then_more (events_from (length es) n (line + 1)) (next_event n line bs))
    (append_assoc (event_text e) (events_text es) rest)
    ∙ (ap (then_more (events_from (length es) n (line + 1)))
    (event_back n line e (events_text es ++ rest) few (t 0 e (omega arith)) (y 0 e (omega arith)))
    ∙ ap (more e) (events_back es n (line + 1) rest few (λ k d low. t (suc k) d (omega (arith, low)))
    (λ k d low. y (suc k) d (omega (arith, low)))))

-- ---- the whole

head_as_text : (n events : ℕ) (rest : List ℕ) → head_text n events ++ rest
    ≡ codes "trace 1 harts " ++ (decimal n ++ (codes " events " ++ (decimal events ++ (codes "\n" ++ rest))))
unfolding head_text
head_as_text n events rest = rw append_assoc (rw append_assoc (rw append_assoc (rw append_assoc refl)))

abbrev line_next : ℕ → ℕ → List ℕ → Field (ℕ × ℕ)
line_next harts events rest = word_field (codes "\n") rest >>= (λ _ rest. Some ((harts, events), rest))

abbrev events_next : ℕ → List ℕ → Field (ℕ × ℕ)
events_next harts rest = decimal_behind (codes " events ") rest >>= line_next harts

head_back : (n events : ℕ) (rest : List ℕ) → n < DECIMAL_END → events < DECIMAL_END
    → head_field (head_text n events ++ rest) ≡ Some ((n, events), rest)
unfolding head_field word_field
head_back n events rest low few =
    ap head_field (head_as_text n events rest)
    ∙ (ap (λ (f : Field ℕ). f >>= events_next)
    (decimal_back n 32 (codes "events " ++ (decimal events ++ (codes "\n" ++ rest))) low refl)
    ∙ ap (λ (f : Field ℕ). f >>= line_next n) (decimal_back events 10 rest few refl))

head_ok : (n events : ℕ) → 1 ≤ n → n ≤ HART_ROOM → events ≤ MOST_EVENTS → is_head n events ≡ true
head_ok n events some few most = grind (arith, nat_tests)

text_back : (n : ℕ) (es : List Event) → IsTrace n es → All IsTyped es
    → trace_of (head_text n (length es) ++ (events_text es ++ codes "end\n")) ≡ Ok (n, es)
unfolding trace_of ending word_field
text_back n es t y =
    let few = t.few in
    let harts = t.harts in
    let tail : List ℕ = events_text es ++ codes "end\n" in
    ap (behind_head (head_text n (length es) ++ tail))
    (head_back n (length es) tail (omega (arith, harts.1)) (omega (arith, few)))
    ∙ (ap (λ b. cond {A = Result (ℕ × List Event) TraceFault} b
    (whole n (length es + 2) (events_from (length es) n 2 tail)) (Err (OutOfRange 1)))
    (head_ok n (length es) harts.0 harts.1 few)
    ∙ ap (whole n (length es + 2)) (events_back es n 2 (codes "end\n") harts.1 t.each y))

pub reads_back : ReadsBack
unfolding trace_text
reads_back n es t y =
    ap trace_of (append_assoc (head_text n (length es)) (events_text es) (codes "end\n")) ∙ text_back n es t y
