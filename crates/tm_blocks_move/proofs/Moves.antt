-- Moves, one list after another.
use Rattle.std.proofs.Common.{◌≡◌, ◌≢◌, ℕ, ◌^◌, ◌<◌, List, [], ◌∷◌, ◌++◌, refl, sym, ap, ◌∙◌, subst, append_assoc}
use Rattle.std.proofs.Common.{append-nil}
use Rattle.tm_table.specs.declared.state.Access.{Access}
use Rattle.tm_table.specs.declared.state.Access.TheVariants.{Read, Write}
use Rattle.tm_runs.specs.Machine.{Table, State, World, put, get}
use Rattle.tm_blocks_base.specs.Laws.{accesses}
use Rattle.tm_blocks_move.specs.Laws.{Move, Moves, EachMove, moved_memory, moved_accesses, HasMoved}

pub each-left : (P : Move → Type 0) (ms ns : List Move) → EachMove P (ms ++ ns) → EachMove P ms
each-left P [] ns h = tt
each-left P (m ∷ ms) ns h = (h.0, each-left P ms ns h.1)

pub each-right : (P : Move → Type 0) (ms ns : List Move) → EachMove P (ms ++ ns) → EachMove P ns
each-right P [] ns h = h
each-right P (m ∷ ms) ns h = each-right P ms ns h.1

module _ (w : World) where
  moves-append : (ms ns : List Move) (vs us : List ℕ) (mem : Table) → Moves w mem ms vs
      → Moves w (moved_memory mem ms vs) ns us → Moves w mem (ms ++ ns) (vs ++ us)
  moves-append [] ns [] us mem a b = b
  moves-append [] ns (v ∷ vs) us mem a b = absurd a
  moves-append (m ∷ ms) ns [] us mem a b = absurd a
  moves-append (m ∷ ms) ns (v ∷ vs) us mem a b = (a.0, a.1, moves-append ms ns vs us (put mem m.1 v) a.2 b)

  memory-append : (ms ns : List Move) (vs us : List ℕ) (mem : Table) → Moves w mem ms vs
      → moved_memory mem (ms ++ ns) (vs ++ us) ≡ moved_memory (moved_memory mem ms vs) ns us
  memory-append [] ns [] us mem a = refl
  memory-append [] ns (v ∷ vs) us mem a = absurd a
  memory-append (m ∷ ms) ns [] us mem a = absurd a
  memory-append (m ∷ ms) ns (v ∷ vs) us mem a = memory-append ms ns vs us (put mem m.1 v) a.2

  accesses-append : (ms ns : List Move) (vs us : List ℕ) (mem : Table) → Moves w mem ms vs
      → moved_accesses (ms ++ ns) (vs ++ us) ≡ moved_accesses ns us ++ moved_accesses ms vs
  accesses-append [] ns [] us mem a = sym (append-nil (moved_accesses ns us))
  accesses-append [] ns (v ∷ vs) us mem a = absurd a
  accesses-append (m ∷ ms) ns [] us mem a = absurd a
  accesses-append (m ∷ ms) ns (v ∷ vs) us mem a =
      let last : List Access = Write m.1 8 v ∷ Read m.0 8 v ∷ [] in
      ap (λ (l : List Access). l ++ last) (accesses-append ms ns vs us (put mem m.1 v) a.2) ∙ append_assoc
      (moved_accesses ns us) (moved_accesses ms vs) last

  pub moved_none : (s : State) → HasMoved w [] s s
  moved_none s = record {
    values = [];
    moves = tt;
    mem = refl;
    accesses = refl;
    regs = λ r _ _ _ _. refl;
    fits = λ f. f;
  }

  -- some moves and then others
  pub moved_then : (ms ns : List Move) (s t u : State) → HasMoved w ms s t → HasMoved w ns t u
      → HasMoved w (ms ++ ns) s u
  moved_then ms ns s t u f g =
      let behind : Moves w (moved_memory s.mem ms f.values) ns g.values =
      subst (λ (m : Table). Moves w m ns g.values) f.mem g.moves in
      record {
        values = f.values ++ g.values;
        moves = moves-append ms ns f.values g.values s.mem f.moves behind;
        mem = g.mem ∙ (ap (λ (m : Table). moved_memory m ns g.values) f.mem ∙ sym
            (memory-append ms ns f.values g.values s.mem f.moves));
        accesses = g.accesses ∙ (ap (λ (l : List Access). moved_accesses ns g.values ++ l) f.accesses
            ∙ (sym (append_assoc (moved_accesses ns g.values) (moved_accesses ms f.values) (accesses s.log))
            ∙ ap (λ (l : List Access). l ++ accesses s.log)
            (sym (accesses-append ms ns f.values g.values s.mem f.moves))));
        regs = λ r n1 n2 n3 n4. g.regs r n1 n2 n3 n4 ∙ f.regs r n1 n2 n3 n4;
        fits = λ k. g.fits (f.fits k);
      }

  -- a state that differs in x1 to x4 alone
  pub moved_quiet : (ms : List Move) (s t u : State) → t.mem ≡ s.mem → accesses t.log ≡ accesses s.log
      → ((r : ℕ) → r ≢ 1 → r ≢ 2 → r ≢ 3 → r ≢ 4 → get t.regs r ≡ get s.regs r)
      → (((r : ℕ) → get s.regs r < 2 ^ 64) → (r : ℕ) → get t.regs r < 2 ^ 64) → HasMoved w ms t u → HasMoved w ms s u
  moved_quiet ms s t u m l r f h =
      moved_then [] ms s t u (record { values = []; moves = tt; mem = m; accesses = l; regs = r; fits = f }) h

  pub quiet_moved : (ms : List Move) (s t u : State) → u.mem ≡ t.mem → accesses u.log ≡ accesses t.log
      → ((r : ℕ) → r ≢ 1 → r ≢ 2 → r ≢ 3 → r ≢ 4 → get u.regs r ≡ get t.regs r)
      → (((r : ℕ) → get t.regs r < 2 ^ 64) → (r : ℕ) → get u.regs r < 2 ^ 64) → HasMoved w ms s t → HasMoved w ms s u
  quiet_moved ms s t u m l r f h = record {
    values = h.values;
    moves = h.moves;
    mem = m ∙ h.mem;
    accesses = l ∙ h.accesses;
    regs = λ x n1 n2 n3 n4. r x n1 n2 n3 n4 ∙ h.regs x n1 n2 n3 n4;
    fits = λ k. f (h.fits k);
  }
