-- The slots that planes tell are those of the definition.
use Rattle.std.proofs.Common.{◌≡◌, ℕ, zero, suc, List, [], ◌∷◌, ◌++◌, Bool, true, ◌&&◌, ◌||◌, not, ◌==◌, Option, Some}
use Rattle.std.proofs.Common.{refl, sym, ap, ap₂, ◌∙◌, arith}
use Rattle.std.specs.Prelude.{slice_get, if◌then◌else◌}
use Rattle.tm_table.specs.declared.instr.Instr.{Instr}
use Rattle.tm_plan_cases.specs.declared.cases.Cases.{Cases}
use Rattle.tm_plan_cases.specs.declared.cases.Case.{Case}
use Rattle.tm_plan_cases.specs.declared.cases.Stream.{Stream}
use Rattle.tm_plan_map.specs.Map.{within}
use Rattle.tm_plan_map.specs.Slots.{instr_of, store_width, slot_addr}
use Rattle.tm_plan_cases.specs.Collected.{is_declared}
use Rattle.tm_base.specs.Lists.{any, count_from}
use Rattle.tm_plan_cases.specs.Shaped.{AreShaped}
use Rattle.tm_plan_map.proofs.Within.{within-parts, within-true}
use Rattle.tm_world.specs.Lists.{those}
use Rattle.tm_world.specs.Writers.{some_store_to, may_store}
use Rattle.tm_world.specs.Slots.{another_may_store, is_own_byte, named, load_bytes, target_of, slot_of, word_slot}
use Rattle.tm_world.specs.Slots.{words_slots, slots_in}
use Rattle.tm_world.proofs.Streams.{stream-case}
use Rattle.tm_plane.specs.Plane.{in_plane}
use Rattle.tm_race_walk.specs.Slots.{plane_slot, reads_of}
use Rattle.tm_race_walk.specs.Shapes.{another_in, own_in}
use Rattle.tm_race_walk.proofs.Shaping.{case-harts}

any-alike : (f g : ℕ → Bool) → ((b : ℕ) → f b ≡ g b) → (xs : List ℕ) → any f xs ≡ any g xs
any-alike f g h [] = refl
any-alike f g h (x ∷ xs) = ap₂ (λ (u v : Bool). u || v) (h x) (any-alike f g h xs)

those-alike : (f g : ℕ → Bool) (n a : ℕ) → ((b : ℕ) → within a n b ≡ true → f b ≡ g b) → those f (count_from a n)
    ≡ those g (count_from a n)
those-alike f g zero a h = refl
those-alike f g (suc n) a h =
    ap₂ (λ (b : Bool) (ys : List ℕ). if b then a ∷ ys
    else ys) (h a (within-true a (suc n) a (omega arith) (omega arith)))
    (those-alike f g n (suc a) (λ b t. let p = within-parts (suc a) n b t in
    h b (within-true a (suc n) b (omega (arith, p)) (omega (arith, p)))))

module _ (cases : Cases) (c h : ℕ) (case : Case) (a : AreShaped cases) (at : slice_get cases.cases c ≡ Some case) where
  pub another-told : (b : ℕ) → another_in case h b ≡ another_may_store cases c h b
  another-told b =
      ap (λ (n : ℕ). any (λ g. not (g == h) && some_store_to b (slice_get case.streams g)) (count_from 0 n))
      (case-harts cases c case a at)
      ∙ any-alike (λ g. not (g == h) && some_store_to b (slice_get case.streams g)) (λ g. not (g == h)
      && may_store cases c g b)
      (λ g. ap (λ (o : Option Stream). not (g == h) && some_store_to b o) (sym (stream-case cases c g case at)))
      (count_from 0 cases.harts)

  own-told : (b : ℕ) → is_declared cases b ≡ true → own_in case h b ≡ is_own_byte cases c h b
  own-told b d =
      ap₂ (λ (u v : Bool). u && not v) (ap (some_store_to b) (sym (stream-case cases c h case at))) (another-told b)
      ∙ ap (λ (t : Bool). t && (may_store cases c h b && not (another_may_store cases c h b))) (sym d)

  -- a slot
  pub slot-told : (others own : List ℕ) (n : ℕ) (i : Instr) → ((b : ℕ) → in_plane others b ≡ another_in case h b)
      → ((b : ℕ) → in_plane own b ≡ own_in case h b)
      → ((b : ℕ) → within (slot_addr i) (store_width i.op) b ≡ true → is_declared cases b ≡ true)
      → plane_slot others own n i ≡ slot_of cases c h n i
  slot-told others own n i f g d =
      ap₂ (λ (ws : List ℕ) (r : Bool). record {
        reads = reads_of i;
        writes = named (i.rd ∷ []) ++ ws;
        races = r;
        target = target_of n i;
        decides = (slot_of cases c h n i).decides;
      })
      (those-alike (in_plane own) (is_own_byte cases c h) (store_width i.op) (slot_addr i)
      (λ b t. g b ∙ own-told b (d b t)))
      (any-alike (in_plane others) (another_may_store cases c h) (λ b. f b ∙ another-told b) (load_bytes i))

  -- the slot of a stream's word
  pub slots-at : (stream : Stream) (n w : ℕ) (i : Instr) → slice_get case.streams h ≡ Some stream
      → slice_get stream.words n ≡ Some w → instr_of w ≡ Some i → slots_in cases c h n ≡ slot_of cases c h n i
  unfolding slots_in
  slots-at stream n w i is there d =
      ap (λ (o : Option Stream). words_slots cases c h o n) (stream-case cases c h case at ∙ is)
      ∙ (ap (word_slot cases c h n) there ∙ rw d refl)
