-- The parts of words: the uses that they make, that they are fit, and fit words cut into them.
use Rattle.std.proofs.Common.{◌≡◌, ◌∙◌, ◌<◌, ◌+◌, ◌==◌, ◌&&◌, ◌||◌, not, ℕ, Bool, cond, true, false, suc}
use Rattle.std.proofs.Common.{refl, sym, ap, ap₂, arith, List, [], ◌∷◌, ◌++◌, map, length, drop, Option}
use Rattle.std.proofs.Common.{Some, None, true≢false, inl, inr}
use Rattle.std.proofs.Common.{nat_lt, nat_eq, get_or}
use Rattle.std.specs.Option.{option_map_or}
use Rattle.std.specs.Str.{bytes_eq}
use Rattle.std.specs.List.{list_any, list_all, before_first, after_first, position_or_len, starts_with}
use Rattle.std.proofs.lemmas.Bool.Decides.{nat_tests}
use Rattle.std.proofs.lemmas.List.Sums.{split_at_first, passes_at_first}
use Rattle.clap.specs.Lexer.{name_and_value}
use Rattle.clap.specs.Walk.{Text}
use Rattle.clap.proofs.LexerLemmas.{name_and_value-without}
use Rattle.clap.proofs.CutLemmas.{list_any-at, after_first-at}
use Rattle.tm_words.specs.Words.{is_name}
use Rattle.tm_words.specs.Form.{Part, is_among, dashed, all_spelled, ending, behind, names_in}
use Rattle.tm_words.specs.Form.{options_in, is_part_of}
use Rattle.tm_words.specs.Form.Part.{a_name, apart, joined}
use Rattle.tm_words.specs.Parser.{has_fit_value, is_clean, are_fit}
use Rattle.tm_words.proofs.Plain.{not_false, false_or_true, lacks}
use Rattle.tm_words.proofs.Rules.{are_good, good_among, no_equals}
use Rattle.tm_words.proofs.Uses.{Use, names_used, options_used, are_options}
use Rattle.tm_words.proofs.Uses.Use.{named, valued}
use Rattle.std.proofs.lemmas.Bool.{and_parts}

-- ---- a word with two dashes

abbrev is_equals : ℕ → Bool
is_equals b = b == 61

some_place : (xs : List ℕ) → nat_lt (position_or_len is_equals xs) (length xs) ≡ list_any is_equals xs
some_place [] = refl
some_place (x ∷ xs) = go (x == 61) (some_place xs)
  where
    go : (b : Bool) → nat_lt (position_or_len is_equals xs) (length xs) ≡ list_any is_equals xs
        → nat_lt (cond (not b) (1 + position_or_len is_equals xs) 0) (length (x ∷ xs)) ≡ (b || list_any is_equals xs)
    go true rest = grind (arith, nat_tests)
    go false rest =
        let more : nat_lt (1 + position_or_len is_equals xs) (suc (length xs)) ≡ nat_lt (position_or_len is_equals xs)
        (length xs) = grind (arith, nat_tests) in more ∙ rest

fit_value_is : (o : List ℕ) → has_fit_value o ≡ cond (list_any is_equals o) (is_name (after_first is_equals o)) true
fit_value_is o =
    go (nat_lt (position_or_len is_equals o) (length o)) ∙ ap (λ b. cond b (is_name (after_first is_equals o)) true)
    (some_place o)
  where
    go : (b : Bool)
        → option_map_or (λ place. is_name (drop (place + 1) o)) (cond b (Some (position_or_len is_equals o)) None) true
        ≡ cond b (is_name (after_first is_equals o)) true
    go true = refl
    go false = refl

pub no_value_fits : (o : List ℕ) → list_any is_equals o ≡ false → has_fit_value o ≡ true
no_value_fits o none = fit_value_is o ∙ ap (λ b. cond b (is_name (after_first is_equals o)) true) none

pub name_value_fits : (o v : List ℕ) → list_any is_equals o ≡ false → is_name v ≡ true
    → has_fit_value (o ++ 61 ∷ v) ≡ true
name_value_fits o v none e =
    fit_value_is (o ++ 61 ∷ v) ∙ ap₂ (λ b t. cond b (is_name t) true) (list_any-at 61 o v) (after_first-at 61 o v (lacks
    61 o none)) ∙ e

-- what stands behind two dashes: a name alone, or one with a value
pub data Behind (o : List ℕ) : Type 0 where
  alone : name_and_value o ≡ (o, None) → Behind o
  with_value : (p v : List ℕ) → o ≡ p ++ 61 ∷ v → name_and_value o ≡ (p, Some v) → is_name v ≡ true → Behind o

pub behind_dashes : (o : List ℕ) → has_fit_value o ≡ true → Behind o
behind_dashes o fit = elim (false_or_true (list_any is_equals o)) [
  | inr none ↦ alone (name_and_value-without o (lacks 61 o none))
  | inl some ↦
      let value : is_name (after_first is_equals o) ≡ true =
      sym (fit_value_is o ∙ ap (λ b. cond b (is_name (after_first is_equals o)) true) some) ∙ fit in
      let inside : position_or_len is_equals o < length o =
      let place = some_place o ∙ some in grind (arith, nat_tests) in
      let here : get_or o (position_or_len is_equals o) 0 ≡ 61 =
      let hit = passes_at_first is_equals o 0 inside in grind (arith, nat_tests) in
      with_value (before_first is_equals o) (after_first is_equals o)
      (split_at_first is_equals o 0 inside ∙ ap (λ b. before_first is_equals o ++ b ∷ after_first is_equals o) here)
      (ap (λ b. (before_first is_equals o, cond b (Some (after_first is_equals o)) None)) some) value
]

-- a word that may stand before `--`
pub data Word (w : List ℕ) : Type 0 where
  plain : is_name w ≡ true → Word w
  dashes : (o : List ℕ) → w ≡ 45 ∷ 45 ∷ o → has_fit_value o ≡ true → Word w

pub clean_word : (w : List ℕ) → is_clean w ≡ true → Word w
clean_word w fit = elim (false_or_true (starts_with nat_eq w (45 ∷ 45 ∷ []))) [
  | inr other ↦ plain (sym (ap (λ b. cond b (has_fit_value (drop 2 w)) (is_name w)) other) ∙ fit)
  | inl starts ↦ dashes (drop 2 w) (begins w starts) (sym (ap (λ b. cond b (has_fit_value (drop 2 w)) (is_name w))
      starts) ∙ fit)
]
  where
    begins : (t : List ℕ) → starts_with nat_eq t (45 ∷ 45 ∷ []) ≡ true → t ≡ 45 ∷ 45 ∷ drop 2 t
    begins [] e = absurd (true≢false (sym e))
    begins (x ∷ []) e = absurd (true≢false (sym (and_parts (nat_eq 45 x) false e).1))
    begins (x ∷ y ∷ t) e =
        let first = and_parts (nat_eq 45 x) (nat_eq 45 y && true) e in
        let second = and_parts (nat_eq 45 y) true first.1 in
        let is_x : x ≡ 45 = let h = first.0 in grind (arith, nat_tests) in
        let is_y : y ≡ 45 = let h = second.0 in grind (arith, nat_tests) in
        ap₂ (λ a b. a ∷ b ∷ t) is_x is_y

-- ---- the uses of parts

abbrev pub uses_of : List Part → List Use
uses_of [] = []
uses_of (a_name n ∷ ps) = named n ∷ uses_of ps
uses_of (apart o v ∷ ps) = valued o v ∷ uses_of ps
uses_of (joined o v ∷ ps) = valued o v ∷ uses_of ps

-- all uses: those of the parts, and the names behind them
abbrev pub all_uses : List Part → Option (List Text) → List Use
all_uses parts rest = uses_of parts ++ map named (behind rest)

names_behind : (ns : List Text) → names_used (map named ns) ≡ ns
names_behind [] = refl
names_behind (n ∷ ns) = ap (λ m. n ∷ m) (names_behind ns)

none_behind : (ns : List Text) → options_used (map named ns) ≡ []
none_behind [] = refl
none_behind (n ∷ ns) = none_behind ns

pub names_of_uses : (parts : List Part) (rest : Option (List Text))
    → names_used (all_uses parts rest) ≡ names_in parts ++ behind rest
names_of_uses [] rest = names_behind (behind rest)
names_of_uses (a_name n ∷ ps) rest = ap (λ m. n ∷ m) (names_of_uses ps rest)
names_of_uses (apart o v ∷ ps) rest = names_of_uses ps rest
names_of_uses (joined o v ∷ ps) rest = names_of_uses ps rest

pub options_of_uses : (parts : List Part) (rest : Option (List Text))
    → options_used (all_uses parts rest) ≡ options_in parts
options_of_uses [] rest = none_behind (behind rest)
options_of_uses (a_name n ∷ ps) rest = options_of_uses ps rest
options_of_uses (apart o v ∷ ps) rest = ap (λ m. (o, v) ∷ m) (options_of_uses ps rest)
options_of_uses (joined o v ∷ ps) rest = ap (λ m. (o, v) ∷ m) (options_of_uses ps rest)

pub fit_options : (os : List Text) (parts : List Part) → list_all (is_part_of os) parts ≡ true
    → are_options os (options_in parts) ≡ true
fit_options os [] e = refl
fit_options os (a_name n ∷ ps) e = fit_options os ps (and_parts (is_name n) _ e).1
fit_options os (apart o v ∷ ps) e =
    let parts = and_parts (is_among os o && is_name v) (list_all (is_part_of os) ps) e in
    ap₂ (λ a b. a && b) (and_parts (is_among os o) (is_name v) parts.0).0 (fit_options os ps parts.1)
fit_options os (joined o v ∷ ps) e =
    let parts = and_parts (is_among os o && is_name v) (list_all (is_part_of os) ps) e in
    ap₂ (λ a b. a && b) (and_parts (is_among os o) (is_name v) parts.0).0 (fit_options os ps parts.1)

-- ---- words that spell parts are fit

pub not_dashes : (n : Text) → is_name n ≡ true → (is_clean n ≡ true) × (bytes_eq n (45 ∷ 45 ∷ []) ≡ false)
not_dashes [] e = absurd (true≢false (sym e))
not_dashes (x ∷ []) e =
    let other : (x == 45) ≡ false = not_false (x == 45) e in
    let turned : nat_eq 45 x ≡ false = grind (arith, nat_tests) in (rw turned e, rw other refl)
not_dashes (x ∷ y ∷ t) e =
    let other : (x == 45) ≡ false = not_false (x == 45) e in
    let turned : nat_eq 45 x ≡ false = grind (arith, nat_tests) in (rw turned e, rw other refl)

names_fit : (ns : List Text) → list_all is_name ns ≡ true → are_fit true ns ≡ true
names_fit [] e = refl
names_fit (n ∷ ns) e =
    let parts = and_parts (is_name n) (list_all is_name ns) e in
    ap₂ (λ a b. a && b) parts.0 (names_fit ns parts.1)

pub fit_names : (ns : List Text) → are_fit true ns ≡ true → list_all is_name ns ≡ true
fit_names [] e = refl
fit_names (n ∷ ns) e =
    let parts = and_parts (is_name n) (are_fit true ns) e in
    ap₂ (λ a b. a && b) parts.0 (fit_names ns parts.1)

fit_next : (w : Text) (ws : List Text) → is_clean w ≡ true → bytes_eq w (45 ∷ 45 ∷ []) ≡ false → are_fit false ws ≡ true
    → are_fit false (w ∷ ws) ≡ true
fit_next w ws clean other rest = ap₂ (λ a b. a && are_fit b ws) clean other ∙ rest

module _ (os : List Text) (good : are_good os ≡ true) where
  pub parts_fit : (parts : List Part) (rest : Option (List Text)) → list_all (is_part_of os) parts ≡ true
      → list_all is_name (behind rest) ≡ true
      → are_fit false (all_spelled parts ++ ending rest) ≡ true
  parts_fit [] None e names = refl
  parts_fit [] (Some ns) e names = names_fit ns names
  parts_fit (a_name n ∷ ps) rest e names =
      let parts = and_parts (is_name n) (list_all (is_part_of os) ps) e in
      let clean = not_dashes n parts.0 in
      fit_next n (all_spelled ps ++ ending rest) clean.0 clean.1 (parts_fit ps rest parts.1 names)
  parts_fit (apart [] v ∷ ps) rest e names =
      let parts = and_parts (is_among os [] && is_name v) (list_all (is_part_of os) ps) e in
      absurd (true≢false (sym (good_among os [] good (and_parts (is_among os []) (is_name v) parts.0).0)))
  parts_fit (apart (x ∷ xs) v ∷ ps) rest e names =
      let parts = and_parts (is_among os (x ∷ xs) && is_name v) (list_all (is_part_of os) ps) e in
      let fine = and_parts (is_among os (x ∷ xs)) (is_name v) parts.0 in
      let clean = not_dashes v fine.1 in
      fit_next (dashed (x ∷ xs)) (v ∷ (all_spelled ps ++ ending rest)) (no_value_fits (x ∷ xs) (no_equals (x ∷ xs)
      (good_among os (x ∷ xs) good fine.0))) refl
      (fit_next v (all_spelled ps ++ ending rest) clean.0 clean.1 (parts_fit ps rest parts.1 names))
  parts_fit (joined [] v ∷ ps) rest e names =
      let parts = and_parts (is_among os [] && is_name v) (list_all (is_part_of os) ps) e in
      absurd (true≢false (sym (good_among os [] good (and_parts (is_among os []) (is_name v) parts.0).0)))
  parts_fit (joined (x ∷ xs) v ∷ ps) rest e names =
      let parts = and_parts (is_among os (x ∷ xs) && is_name v) (list_all (is_part_of os) ps) e in
      let fine = and_parts (is_among os (x ∷ xs)) (is_name v) parts.0 in
      fit_next (dashed (x ∷ xs) ++ 61 ∷ v) (all_spelled ps ++ ending rest) (name_value_fits (x ∷ xs) v (no_equals (x ∷
      xs) (good_among os (x ∷ xs) good fine.0)) fine.1) refl
      (parts_fit ps rest parts.1 names)

-- ---- words cut into parts

-- words are cut into parts of a command with these options
pub record Cut (os : List Text) (words : List Text) : Type 0 where
  pub parts : List Part
  pub rest : Option (List Text)
  pub spells : words ≡ all_spelled parts ++ ending rest
  pub fit : list_all (is_part_of os) parts ≡ true
  pub fit_behind : list_all is_name (behind rest) ≡ true

-- the first is a value, and what is behind it is cut into parts
pub record CutValue (os : List Text) (words : List Text) : Type 0 where
  pub value : Text
  pub more : List Text
  pub begins : words ≡ value ∷ more
  pub fit_value : is_name value ≡ true
  pub cut : Cut os more

pub cut_nothing : (os : List Text) → Cut os []
cut_nothing os = record { parts = []; rest = None; spells = refl; fit = refl; fit_behind = refl }

pub cut_ends : (os : List Text) (w : Text) (ns : List Text) → w ≡ 45 ∷ 45 ∷ [] → list_all is_name ns ≡ true
    → Cut os (w ∷ ns)
cut_ends os w ns is names =
    record { parts = []; rest = Some ns; spells = ap (λ x. x ∷ ns) is; fit = refl; fit_behind = names }

pub cut_name : (os : List Text) (n : Text) (ws : List Text) → is_name n ≡ true → Cut os ws → Cut os (n ∷ ws)
cut_name os n ws e c = record {
  parts = a_name n ∷ c.parts;
  rest = c.rest;
  spells = ap (λ x. n ∷ x) c.spells;
  fit = ap₂ (λ a b. a && b) e c.fit;
  fit_behind = c.fit_behind;
}

pub cut_joined_word : (os : List Text) (w o v : Text) (ws : List Text) → w ≡ 45 ∷ 45 ∷ (o ++ 61 ∷ v)
    → is_among os o ≡ true → is_name v ≡ true → Cut os ws → Cut os (w ∷ ws)
cut_joined_word os w o v ws is among e c = record {
  parts = joined o v ∷ c.parts;
  rest = c.rest;
  spells = ap₂ (λ a b. a ∷ b) is c.spells;
  fit = ap₂ (λ a b. a && b) (ap₂ (λ a b. a && b) among e) c.fit;
  fit_behind = c.fit_behind;
}

pub cut_apart : (os : List Text) (w o : Text) (ws : List Text) → w ≡ 45 ∷ 45 ∷ o → is_among os o ≡ true → CutValue os ws
    → Cut os (w ∷ ws)
cut_apart os w o ws is among c = record {
  parts = apart o c.value ∷ c.cut.parts;
  rest = c.cut.rest;
  spells = ap₂ (λ a b. a ∷ b) is (c.begins ∙ ap (λ b. c.value ∷ b) c.cut.spells);
  fit = ap₂ (λ a b. a && b) (ap₂ (λ a b. a && b) among c.fit_value) c.cut.fit;
  fit_behind = c.cut.fit_behind;
}
