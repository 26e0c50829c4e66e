-- The template of a sample breaks no rule.
use Rattle.std.proofs.Common.{◌≡◌, ◌<◌, ℕ, zero, suc, ◌+◌, None, refl, arith}
use Rattle.std.specs.Fmt.{digits}
use Rattle.tm_rules_slot.specs.Teams.{in_team, team}
use Rattle.tm_rules_slot.specs.Slots.{mix_fault}
use Rattle.tm_place.specs.Placing.{shape_of}
use Rattle.tm_rules_first.specs.Rules.{broken_rule, first_of, in_turn, checks_of, window_rules, window_checks}
use Rattle.tm_rules_first.specs.Rules.{total_slots, slot_count, slot_fault, slot_checks, twice_fault, body_rules}
use Rattle.tm_rules_first.specs.Rules.{body_checks, case_rules, case_checks}
use Rattle.tm_sample.specs.Texts.{sample_line}
use Rattle.tm_sample.proofs.Topology.{topology}
use Rattle.tm_sample.proofs.Template.{template}

-- 2 or 4 harts, and each line size with its number of passes; no rule speaks of the bias
pub ruled : (half turn bias : ℕ) → half < 2 → turn < 3
    → broken_rule (topology (1 + half) (sample_line turn) bias) (template (2 + turn)) ≡ None
unfolding in_team team mix_fault shape_of broken_rule first_of in_turn checks_of window_rules window_checks
    total_slots slot_count slot_fault slot_checks twice_fault body_rules body_checks case_rules case_checks digits
ruled zero zero bias few low = refl
ruled zero (suc zero) bias few low = refl
ruled zero (suc (suc zero)) bias few low = refl
ruled (suc zero) zero bias few low = refl
ruled (suc zero) (suc zero) bias few low = refl
ruled (suc zero) (suc (suc zero)) bias few low = refl
ruled (suc (suc half)) turn bias few low = absurd (omega (arith, few))
ruled half (suc (suc (suc turn))) bias few low = absurd (omega (arith, low))
