-- What the parser finds in words is what they spell.
use Rattle.std.proofs.Common.{◌≡◌, ◌∙◌, cond, true, false, refl, sym, ap, ap₂}
use Rattle.std.proofs.Common.{List, [], ◌∷◌, ◌++◌, map, drop, Option, Some, None, is_some}
use Rattle.clap.specs.Walk.{Text, Row, Walk, walk, nothing_held, finished, settled, rows_after, first_of}
use Rattle.clap.specs.Simple.{App, Shape, built, entered, argument_words, matches_of}
use Rattle.clap.specs.Kinds.{or_else, check_kinds}
use Rattle.clap.specs.Faults.{built_fault, entered_fault, level_fault, check_fault, settle_fault}
use Rattle.clap.specs.Faults.{walk_fault, fault_of}
use Rattle.tm_words.specs.Form.{Given, Spell, come_once, value_of, behind, names_in}
use Rattle.tm_words.specs.Form.{options_in}
use Rattle.tm_words.specs.Parser.{are_fit, names_found, Holds, IsRead, IsUnspelled}
use Rattle.tm_words.proofs.Plain.{is_nil, nil_is, or_else-nil}
use Rattle.tm_words.proofs.Rules.{rules_of, built_shape, are_good, no_default_fault, nothing_added, none_required}
use Rattle.tm_words.proofs.Uses.{settle_all, clash_all, options_used, are_options, once_is, names_are}
use Rattle.tm_words.proofs.Uses.{values_are}
use Rattle.tm_words.proofs.Uses.Use.{nothing}
use Rattle.tm_words.proofs.Walking.{between}
use Rattle.tm_words.proofs.Spelling as spelling
use Rattle.tm_words.proofs.Parts.{parts_fit, all_uses, names_of_uses, options_of_uses, fit_options}

module _ (os : List Text) (good : are_good os ≡ true) (name : Text) where
  abbrev at_start : Walk
  at_start = between [] nothing false

  abbrev built_app : App
  built_app = record { top = built_shape name os; subs = [] }

  not_entered : (stop : Option (Text × List Text)) → is_some (entered built_app stop) ≡ false
  not_entered None = refl
  not_entered (Some p) = refl

  no_entered_fault : (stop : Option (Text × List Text)) → entered_fault built_app stop ≡ []
  no_entered_fault None = refl
  no_entered_fault (Some p) = refl

  no_check_fault : (rows : List Row) → check_fault (built_shape name os) rows false ≡ []
  no_check_fault rows = ap (λ b. check_kinds false false b) (none_required rows os)

  level_is : (words : List Text)
      → level_fault (built_shape name os) [] nothing_held words false [] ≡ spelling.total os good name at_start words
  level_is words =
      let end = (walk (rules_of os) [] nothing_held words).held in
      ap (λ k. or_else (walk_fault (built_shape name os) [] at_start words) (or_else (settle_fault (rules_of os) false
      end) k))
      (ap₂ or_else (no_default_fault (settled (rules_of os) end).rows os) (no_check_fault (finished (rules_of os) end)))
      ∙ ap (or_else (walk_fault (built_shape name os) [] at_start words)) (or_else-nil (settle_fault (rules_of os) false
      end))

  built_is : (words : List Text) → built_fault built_app nothing_held words ≡ spelling.total os good name at_start words
  built_is words =
      let stop = (walk (rules_of os) [] nothing_held words).stopped in
      ap₂ (λ b k. level_fault (built_shape name os) [] nothing_held words b k) (not_entered stop) (no_entered_fault
      stop) ∙ level_is words

  module _ (app : App) (is : built app ≡ built_app) (bare : app.top.no_binary_name ≡ true) where
    given_words : (words : List Text) → argument_words app words ≡ words
    given_words words = ap (λ b. cond b words (drop 1 words)) bare

    pub faults_are : (words : List Text) → fault_of app words ≡ spelling.total os good name at_start words
    faults_are words = ap₂ (λ a ws. built_fault a nothing_held ws) is (given_words words) ∙ built_is words

    pub rows_are : (words : List Text) → matches_of app words ≡ spelling.end_rows os good name at_start words
    rows_are words =
        ap₂ (λ (a : App) ws. rows_after a.top.rules (map Rattle.clap.specs.Simple.label_of a.subs) ws) is (given_words
        words)
        ∙ nothing_added (settled (rules_of os) (walk (rules_of os) [] nothing_held words).held).rows os

    -- words that spell names and options are fit, and have no fault
    pub no_fault : (words names : List Text) (given : List Given) → Spell os words names given
        → (are_fit false words ≡ true) × (fault_of app words ≡ [])
    no_fault words names given sp =
        let uses = nothing ∷ all_uses sp.parts sp.rest in
        let options : options_used uses ≡ options_in sp.parts = options_of_uses sp.parts sp.rest in
        let fit = ap (are_options os) options ∙ fit_options os sp.parts sp.fit in
        let once =
        once_is os uses [] [] good (λ o e. refl) fit ∙ ap (come_once []) (options ∙ sym sp.are_given) ∙ sp.once in (
          ap (are_fit false) sp.spells ∙ parts_fit os good sp.parts sp.rest sp.fit sp.fit_behind,
          faults_are words ∙ ap (spelling.total os good name at_start) sp.spells ∙ spelling.parts_faults os good name
              sp.parts sp.rest [] nothing false refl sp.fit ∙ nil_is (clash_all [] uses) once,
        )

    -- what was found in them is these
    pub found : (words names : List Text) (given : List Given) → Spell os words names given → (rows : List Row)
        → rows ≡ matches_of app words → Holds os rows names given
    found words names given sp rows at =
        let uses = nothing ∷ all_uses sp.parts sp.rest in
        let options : options_used uses ≡ options_in sp.parts = options_of_uses sp.parts sp.rest in
        let fit = ap (are_options os) options ∙ fit_options os sp.parts sp.fit in
        let once =
        once_is os uses [] [] good (λ o e. refl) fit ∙ ap (come_once []) (options ∙ sym sp.are_given) ∙ sp.once in
        let rows_at : rows ≡ settle_all [] uses =
        at ∙ rows_are words ∙ ap (spelling.end_rows os good name at_start) sp.spells ∙ spelling.parts_rows os good
        name sp.parts sp.rest [] nothing false refl sp.fit in
        record {
          all_names =
              ap names_found rows_at ∙ names_are os uses [] good fit once ∙ names_of_uses sp.parts sp.rest ∙ sym
              sp.are_names;
          values =
              λ o among. ap (first_of o) rows_at ∙ values_are os uses [] good fit once o among ∙ ap (value_of o)
              (options ∙ sym sp.are_given);
        }

    -- fit words without a fault spell names and options, and what was found is these
    pub is_read : (words : List Text) (rows : List Row) → rows ≡ matches_of app words → are_fit false words ≡ true
        → fault_of app words ≡ []
        → IsRead os words rows
    is_read words rows at fit faultless =
        let fine : is_nil (spelling.total os good name at_start words) ≡ true =
        ap is_nil (sym (faults_are words) ∙ faultless) in
        let cut = spelling.words_cut os good name words fit fine in
        let uses = nothing ∷ all_uses cut.parts cut.rest in
        let options : options_used uses ≡ options_in cut.parts = options_of_uses cut.parts cut.rest in
        let are = ap (are_options os) options ∙ fit_options os cut.parts cut.fit in
        let same : spelling.total os good name at_start words ≡ clash_all [] uses =
        ap (spelling.total os good name at_start) cut.spells ∙ spelling.parts_faults os good name cut.parts cut.rest []
        nothing false refl cut.fit in
        let once : come_once [] (options_in cut.parts) ≡ true =
        sym (once_is os uses [] [] good (λ o e. refl) are ∙ ap (come_once []) options) ∙ ap is_nil (sym same) ∙ fine in
        record {
          some_names = names_in cut.parts ++ behind cut.rest;
          some_given = options_in cut.parts;
          spell = record {
            parts = cut.parts;
            rest = cut.rest;
            spells = cut.spells;
            fit = cut.fit;
            fit_behind = cut.fit_behind;
            are_names = refl;
            are_given = refl;
            once = once;
          };
          each = λ names given sp. found words names given sp rows at;
        }

    -- and words that aren't spell none
    pub is_unspelled : (words : List Text) → (are_fit false words ≡ true → fault_of app words ≡ [] → ⊥)
        → IsUnspelled os words
    is_unspelled words bad names given sp =
        let fine = no_fault words names given sp in
        bad fine.0 fine.1
