-- What the tests say of the ranges that are read.
use Rattle.std.proofs.Common.{◌≡◌, ℕ, ◌+◌, ◌-◌, ◌%◌, ◌<◌, ◌≤◌, ◌==◌, Bool, true, false, cond, nat_lt, nat_le, ◌*◌}
use Rattle.std.proofs.Common.{Option, Some, None, List, length, drop, refl, arith, length-drop}
use Rattle.std.proofs.lemmas.List.{length-take}
use Rattle.std.proofs.lemmas.Bool.{and_parts, leb-true, ltb-true, eqb-true}
use Rattle.std.proofs.lemmas.Bool.Decides.{nat_tests}
use Rattle.tm_elf_write.specs.declared.parts.TheConstants.{MOST_SYMBOLS}
use Rattle.tm_base.specs.declared.limits.TheConstants.{TEXT_WORDS, TABLES_BYTES, TOPOLOGY_BYTES, TEMPLATE_BYTES}
use Rattle.tm_elf_head.specs.declared.spans.Span.{Span}
use Rattle.tm_elf_head.specs.Numbers.{word_at}
use Rattle.tm_elf_head.specs.PartFaults.{is_text, is_tables, bad_segment, is_plan, plan_of, has_plan, has_symbols}
use Rattle.tm_elf_head.specs.Spans.{ends_by, segment, section, bytes_in, headers_at}

ends : (limit : ℕ) (span : Span) → ends_by limit span ≡ true → span.at + span.len ≤ limit
unfolding ends_by
ends limit span h = leb-true (span.at + span.len) limit h

-- a range within a file has its length
pub length_in : (span : Span) (bytes : List ℕ) → span.at + span.len ≤ length bytes → length (bytes_in span bytes)
    ≡ span.len
length_in span bytes h = omega (arith, length-take span.len (drop span.at bytes), length-drop span.at bytes)

pub record TextFits (bytes : List ℕ) : Type 0 where
  pub some : 0 < (segment bytes 0).len
  pub most : (segment bytes 0).len ≤ 4 * TEXT_WORDS
  pub words : (segment bytes 0).len % 4 ≡ 0
  pub long : length (bytes_in (segment bytes 0) bytes) ≡ (segment bytes 0).len
  pub tables : (segment bytes 1).len ≤ TABLES_BYTES

segments_hold : (a b : Bool) → cond {A = Option ℕ} a (cond b None (Some 1)) (Some 0) ≡ None → (a ≡ true) × (b ≡ true)
segments_hold true true h = (refl, refl)
segments_hold true false h = cc
segments_hold false b h = cc

text_holds : (bytes : List ℕ) → is_text bytes ≡ true → is_tables bytes ≡ true → TextFits bytes
unfolding is_text is_tables
text_holds bytes t u =
    let a = and_parts _ _ t in
    let b = and_parts _ _ a.1 in
    let c = and_parts _ _ b.1 in
    let e = and_parts (ends_by (headers_at bytes) (segment bytes 1)) (nat_le (segment bytes 1).len TABLES_BYTES) u in
    let end : (segment bytes 0).at + (segment bytes 0).len ≤ length bytes - 512 =
    ends (headers_at bytes) (segment bytes 0) a.0 in
    record {
      some = ltb-true _ _ c.0;
      most = leb-true _ _ b.0;
      words = eqb-true _ _ c.1;
      long = length_in (segment bytes 0) bytes (omega arith);
      tables = leb-true _ _ e.1;
    }

pub text_fits : (bytes : List ℕ) → bad_segment bytes ≡ None → TextFits bytes
unfolding bad_segment
text_fits bytes h = let s = segments_hold (is_text bytes) (is_tables bytes) h in text_holds bytes s.0 s.1

pub plan_fits : (bytes : List ℕ) → has_plan bytes ≡ true → is_plan (bytes_in (section bytes 4) bytes) ≡ true
unfolding has_plan
plan_fits bytes h = let a = and_parts _ _ h in let b = and_parts _ _ a.1 in b.1

pub record SymbolsFit (bytes : List ℕ) : Type 0 where
  pub some : 0 < (section bytes 5).len
  pub few : (section bytes 5).len ≤ 24 * (1 + MOST_SYMBOLS)
  pub entries : (section bytes 5).len % 24 ≡ 0
  pub long : length (bytes_in (section bytes 5) bytes) ≡ (section bytes 5).len

pub symbols_fit : (bytes : List ℕ) → has_symbols bytes ≡ true → SymbolsFit bytes
unfolding has_symbols
symbols_fit bytes h =
    let a = and_parts _ _ h in
    let b = and_parts _ _ a.1 in
    let c = and_parts _ _ b.1 in
    let d = and_parts _ _ c.1 in
    let end : (section bytes 5).at + (section bytes 5).len ≤ length bytes - 512 =
    ends (headers_at bytes) (section bytes 5) a.0 in
    record {
      some = ltb-true _ _ c.0;
      few = leb-true _ _ d.0;
      entries = eqb-true _ _ d.1;
      long = length_in (section bytes 5) bytes (omega arith);
    }

pub record PlanFits (bytes : List ℕ) : Type 0 where
  pub topo : length (plan_of bytes).topo ≤ TOPOLOGY_BYTES
  pub template : length (plan_of bytes).template ≤ TEMPLATE_BYTES

pub plan_lengths : (bytes : List ℕ) → is_plan bytes ≡ true → PlanFits bytes
unfolding is_plan plan_of
plan_lengths bytes h =
    let a = and_parts _ _ h in
    let b = and_parts _ _ a.1 in
    let c = and_parts _ _ b.1 in
    let d = and_parts _ _ c.1 in
    let topo : word_at bytes 16 ≤ TOPOLOGY_BYTES = leb-true _ _ c.0 in
    let template : word_at bytes 20 ≤ TEMPLATE_BYTES = leb-true _ _ d.0 in
    let whole : 24 + word_at bytes 16 + word_at bytes 20 ≡ length bytes = eqb-true _ _ d.1 in
    record {
      topo = omega (arith, length-take (word_at bytes 16) (drop 24 bytes));
      template = omega (arith, length-drop (24 + word_at bytes 16) bytes);
    }
