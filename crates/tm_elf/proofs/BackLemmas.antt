-- The file of parts is read as those parts.
use Rattle.std.proofs.Common.{◌≡◌, ◌≢◌, ℕ, ◌+◌, ◌-◌, ◌*◌, ◌/◌, ◌%◌, ◌^◌, ◌<◌, ◌≤◌, ◌==◌, true, false, nat_lt, nat_le}
use Rattle.std.proofs.Common.{None, Result, Ok, Err, IfOk, IfErr, MatchResult, List, ◌++◌, length, take, drop, refl}
use Rattle.std.proofs.Common.{ap, ◌∙◌, sym, arith, inl, inr, ◌⊎◌, ⊎_elim}
use Rattle.std.specs.Int.{from_le_bytes, to_le_bytes, w32, w64}
use Rattle.std.proofs.lemmas.Bool.Decides.{nat_tests}
use Rattle.std.proofs.lemmas.List.{take_at, drop_at, drop-drop}
use Rattle.std.proofs.lemmas.Nat.{from_le_bytes-to_le_bytes_4, from_le_bytes-to_le_bytes_8}
use Rattle.tm_base.specs.declared.limits.TheConstants.{TEXT_WORDS, TABLES_BYTES, TOPOLOGY_BYTES, TEMPLATE_BYTES}
use Rattle.tm_base.specs.Limits.{image_version}
use Rattle.tm_elf_write.specs.declared.parts.Parts.{Parts}
use Rattle.tm_elf_write.specs.declared.parts.Plan.{Plan}
use Rattle.tm_elf_write.specs.declared.places.Places.{Places}
use Rattle.tm_elf_write.specs.Elf.{IsWritable, elf_file, text_bytes}
use Rattle.tm_elf_write.specs.Fields.{field_bytes}
use Rattle.tm_elf_write.specs.Plan.{plan_bytes, plan_mark}
use Rattle.tm_elf_write.specs.Sections.{section_fields, sections, sections_bytes}
use Rattle.tm_elf_write.specs.Segments.{segment_fields, segments, segments_bytes}
use Rattle.tm_elf_write.specs.Stands.{ReadsAs, places_in}
use Rattle.tm_elf_write.specs.Symbols.{string_bytes, symbol_bytes}
use Rattle.tm_elf_write.proofs.Lengths.{length_plan, length_symbols, length_text}
use Rattle.tm_elf_write.proofs.Standing.{InOrder, in_order, reads_as}
use Rattle.tm_elf_write.specs.declared.parts.TheConstants.{MOST_SYMBOLS}
use Rattle.tm_refusals.specs.declared.elf.ElfFault.{ElfFault}
use Rattle.tm_refusals.specs.declared.elf.ElfFault.TheVariants.{Short, BadMagic, NotRiscv, NotExec, BadHeader}
use Rattle.tm_refusals.specs.declared.elf.ElfFault.TheVariants.{BadSegment, NoPlan, BadSymbol, Differs, NoMemory}
use Rattle.tm_elf_head.specs.declared.spans.Span.{Span}
use Rattle.tm_elf_head.specs.Differences.{differ}
use Rattle.tm_elf_head.specs.HeaderFaults.{header_fault}
use Rattle.tm_elf_head.specs.Numbers.{word_at, long_at}
use Rattle.tm_elf_head.specs.PartFaults.{is_text, is_tables, bad_segment, is_plan, plan_of, has_plan, has_symbols}
use Rattle.tm_elf.specs.Read.{InRange, compared, elf_of, parts_in, symbols_in, unless_differs, with_symbols}
use Rattle.tm_elf_head.specs.Spans.{ends_by, segment, section, bytes_in, headers_at}
use Rattle.tm_elf_head.proofs.DifferenceLemmas.{no_difference}
use Rattle.tm_elf_head.proofs.HeaderLemmas.{alike, header_back}
use Rattle.tm_elf.proofs.NameLemmas.{strings_short, symbols_back}
use Rattle.tm_elf_head.proofs.StandLemmas.{fronts, long_back, word_back}
use Rattle.tm_elf.proofs.WordLemmas.{text_back}

abbrev OrderOf : Parts → Type 0
OrderOf p = InOrder (length (text_bytes p.text)) (length p.tables) (length (plan_bytes p.plan))
    (length (symbol_bytes p.symbols)) (length (string_bytes p.symbols)) (places_in p)

order_of : (p : Parts) → OrderOf p
unfolding places_in
order_of p = in_order _ _ _ _ _

record Small (p : Parts) : Type 0 where
  text : length (text_bytes p.text) ≡ 4 * length p.text
  some : 0 < length p.text
  most : length p.text ≤ TEXT_WORDS
  tables : length p.tables ≤ TABLES_BYTES
  plan : length (plan_bytes p.plan) ≤ 2000000
  symbols : length (symbol_bytes p.symbols) ≡ 24 * length p.symbols + 24
  number : length p.symbols ≤ MOST_SYMBOLS
  strings : length (string_bytes p.symbols) ≤ 33 * length p.symbols + 1

small : (p : Parts) → IsWritable p → Small p
small p w =
    let topo = w.topo in
    let template = w.template in
    record {
      text = length_text p.text;
      some = w.text.0;
      most = w.text.1;
      tables = w.tables;
      plan = omega (arith, length_plan p.plan, topo, template);
      symbols = length_symbols p.symbols;
      number = w.symbols;
      strings = strings_short p.symbols w.names;
    }

-- the rows of the headers
record SegmentRows (text tables : ℕ) (at : Places) (rows : List ℕ) : Type 0 where
  long : length rows ≡ 168
  text_at : take 8 (drop 8 rows) ≡ to_le_bytes w64 4096
  text_len : take 8 (drop 32 rows) ≡ to_le_bytes w64 text
  tables_at : take 8 (drop 64 rows) ≡ to_le_bytes w64 at.tables
  tables_len : take 8 (drop 88 rows) ≡ to_le_bytes w64 tables

segment_rows : (text tables : ℕ) (at : Places) → SegmentRows text tables at (segments_bytes (segments text tables at))
unfolding segments segment_fields field_bytes
segment_rows text tables at = record {
  long = refl;
  text_at = refl;
  text_len = refl;
  tables_at = refl;
  tables_len = refl;
}

record SectionRows (plan symbols strings : ℕ) (at : Places) (rows : List ℕ) : Type 0 where
  long : length rows ≡ 512
  kind : take 4 (drop 260 rows) ≡ to_le_bytes w32 1
  plan_at : take 8 (drop 280 rows) ≡ to_le_bytes w64 at.plan
  plan_len : take 8 (drop 288 rows) ≡ to_le_bytes w64 plan
  symbols_at : take 8 (drop 344 rows) ≡ to_le_bytes w64 at.symbols
  symbols_len : take 8 (drop 352 rows) ≡ to_le_bytes w64 symbols
  strings_at : take 8 (drop 408 rows) ≡ to_le_bytes w64 at.strings
  strings_len : take 8 (drop 416 rows) ≡ to_le_bytes w64 strings

section_rows : (text tables plan symbols strings : ℕ) (at : Places)
    → SectionRows plan symbols strings at (sections_bytes (sections text tables plan symbols strings at))
unfolding sections section_fields field_bytes
section_rows text tables plan symbols strings at =
    record {
      long = refl;
      kind = refl;
      plan_at = refl;
      plan_len = refl;
      symbols_at = refl;
      symbols_len = refl;
      strings_at = refl;
      strings_len = refl;
    }

abbrev span : (at len : ℕ) → Span
span at len = record { at = at; len = len }

segment_back : (bytes : List ℕ) (index at len : ℕ) → long_at bytes (56 * index + 72) ≡ at
    → long_at bytes (56 * index + 96) ≡ len → segment bytes index ≡ span at len
unfolding segment
segment_back bytes index at len e f = rw (e, f) refl

section_back : (bytes : List ℕ) (index place at len : ℕ) → headers_at bytes ≡ place
    → long_at bytes (place + (64 * index + 24)) ≡ at → long_at bytes (place + (64 * index + 32)) ≡ len
    → section bytes index ≡ span at len
unfolding section
section_back bytes index place at len h e f = rw (h, e, f) refl

ends : (limit place at len : ℕ) (s : Span) → s ≡ span at len → limit ≡ place → at + len ≤ place → ends_by limit s ≡ true
unfolding ends_by
ends limit place at len s e l h =
    let t : nat_le (at + len) place ≡ true = grind (arith, nat_tests) in
    rw (e, l) t

-- the ranges that a reader finds
record Found (p : Parts) (bytes : List ℕ) : Type 0 where
  headers : headers_at bytes ≡ (places_in p).sections
  kind : word_at bytes (headers_at bytes + (64 * 4 + 4)) ≡ 1
  text : segment bytes 0 ≡ span 4096 (length (text_bytes p.text))
  tables : segment bytes 1 ≡ span (places_in p).tables (length p.tables)
  plan : section bytes 4 ≡ span (places_in p).plan (length (plan_bytes p.plan))
  symbols : section bytes 5 ≡ span (places_in p).symbols (length (symbol_bytes p.symbols))
  strings : section bytes 6 ≡ span (places_in p).strings (length (string_bytes p.symbols))

found : (p : Parts) (bytes : List ℕ) → ReadsAs p bytes → OrderOf p → Small p → Found p bytes
found p bytes r o s =
    let at = places_in p in
    let g = segment_rows (length (text_bytes p.text)) (length p.tables) at in
    let n = section_rows (length (text_bytes p.text)) (length p.tables) (length (plan_bytes p.plan))
    (length (symbol_bytes p.symbols)) (length (string_bytes p.symbols)) at in
    let long = g.long in
    let all = n.long in
    let whole = r.whole in
    let headers : headers_at bytes ≡ at.sections = omega (arith, whole) in
    record {
      headers = headers;
      kind = ap (λ h. word_at bytes (h + 260)) headers ∙ word_back at.sections 260 1 _ bytes r.section_headers
          (omega (arith, all)) (omega arith) n.kind;
      text = segment_back bytes 0 _ _ (long_back 64 8 _ _ bytes r.program_headers (omega (arith, long)) (omega arith)
          g.text_at) (long_back 64 32 _ _ bytes r.program_headers (omega (arith, long)) (omega arith) g.text_len);
      tables = segment_back bytes 1 _ _ (long_back 64 64 _ _ bytes r.program_headers (omega (arith, long)) (omega arith)
          g.tables_at) (long_back 64 88 _ _ bytes r.program_headers (omega (arith, long)) (omega arith) g.tables_len);
      plan = section_back bytes 4 at.sections _ _ headers
          (long_back at.sections 280 _ _ bytes r.section_headers (omega (arith, all)) (omega arith) n.plan_at)
          (long_back at.sections 288 _ _ bytes r.section_headers (omega (arith, all)) (omega arith) n.plan_len);
      symbols = section_back bytes 5 at.sections _ _ headers
          (long_back at.sections 344 _ _ bytes r.section_headers (omega (arith, all)) (omega arith) n.symbols_at)
          (long_back at.sections 352 _ _ bytes r.section_headers (omega (arith, all)) (omega arith) n.symbols_len);
      strings = section_back bytes 6 at.sections _ _ headers
          (long_back at.sections 408 _ _ bytes r.section_headers (omega (arith, all)) (omega arith) n.strings_at)
          (long_back at.sections 416 _ _ bytes r.section_headers (omega (arith, all)) (omega arith) n.strings_len);
    }

-- the plan
record PlanReads (plan : Plan) (bytes : List ℕ) : Type 0 where
  magic : take 8 bytes ≡ plan_mark image_version
  seed : take 8 (drop 8 bytes) ≡ to_le_bytes w64 plan.seed
  topo : take 4 (drop 16 bytes) ≡ to_le_bytes w32 (length plan.topo)
  template : take 4 (drop 20 bytes) ≡ to_le_bytes w32 (length plan.template)
  texts : drop 24 bytes ≡ plan.topo ++ plan.template

plan_reads : (plan : Plan) → PlanReads plan (plan_bytes plan)
unfolding plan_bytes field_bytes
plan_reads plan = record { magic = refl; seed = refl; topo = refl; template = refl; texts = refl }

record PlanBack (plan : Plan) (bytes : List ℕ) : Type 0 where
  holds : is_plan bytes ≡ true
  read : plan_of bytes ≡ plan

plan_back : (plan : Plan) → length plan.topo ≤ TOPOLOGY_BYTES → length plan.template ≤ TEMPLATE_BYTES
    → plan.seed < 2 ^ 64 → PlanBack plan (plan_bytes plan)
unfolding is_plan plan_of word_at long_at
plan_back plan topo template seed =
    let b = plan_bytes plan in
    let r = plan_reads plan in
    let long = length_plan plan in
    let m : differ (take 8 b) (plan_mark image_version) ≡ false = alike _ _ r.magic in
    let t : from_le_bytes w32 (take 4 (drop 16 b)) ≡ length plan.topo =
    ap (from_le_bytes w32) r.topo ∙ from_le_bytes-to_le_bytes_4 (length plan.topo) (omega (arith, topo)) in
    let l : from_le_bytes w32 (take 4 (drop 20 b)) ≡ length plan.template =
    ap (from_le_bytes w32) r.template ∙ from_le_bytes-to_le_bytes_4 (length plan.template) (omega (arith, template))
    in
    let s : from_le_bytes w64 (take 8 (drop 8 b)) ≡ plan.seed =
    ap (from_le_bytes w64) r.seed ∙ from_le_bytes-to_le_bytes_8 plan.seed seed in
    let head : nat_le 24 (length b) ≡ true = grind (arith, nat_tests) in
    let few : nat_le (length plan.topo) TOPOLOGY_BYTES ≡ true = grind (arith, nat_tests) in
    let most : nat_le (length plan.template) TEMPLATE_BYTES ≡ true = grind (arith, nat_tests) in
    let whole : (24 + length plan.topo + length plan.template == length b) ≡ true = grind (arith, nat_tests) in
    let front : take (length plan.topo) (drop 24 b) ≡ plan.topo =
    ap (take (length plan.topo)) r.texts ∙ take_at plan.topo plan.template (length plan.topo) refl in
    let back : drop (24 + length plan.topo) b ≡ plan.template =
    sym (drop-drop (length plan.topo) 24 b) ∙ ap (drop (length plan.topo)) r.texts ∙ drop_at plan.topo plan.template
    (length plan.topo) refl in
    record {
      holds = rw (head, m, t, l, few, most, whole) refl;
      read = rw (t, s, front, back) refl;
    }

-- each test holds
text_holds : (p : Parts) (bytes : List ℕ) → Found p bytes → OrderOf p → Small p → bad_segment bytes ≡ None
unfolding bad_segment is_text is_tables
text_holds p bytes f o s =
    let at = places_in p in
    let n = length (text_bytes p.text) in
    let a : ends_by (headers_at bytes) (segment bytes 0) ≡ true =
    ends _ at.sections _ _ _ f.text f.headers (omega arith) in
    let b : ends_by (headers_at bytes) (segment bytes 1) ≡ true =
    ends _ at.sections _ _ _ f.tables f.headers (omega arith) in
    let most : nat_le (length (text_bytes p.text)) (4 * TEXT_WORDS) ≡ true = grind (arith, nat_tests) in
    let some : nat_lt 0 (length (text_bytes p.text)) ≡ true = grind (arith, nat_tests) in
    let whole : length (text_bytes p.text) % 4 ≡ 0 = omega arith in
    let few : nat_le (length p.tables) TABLES_BYTES ≡ true = grind (arith, nat_tests) in
    rw (a, b, f.text, f.tables, most, some, whole, few) refl

plan_holds : (p : Parts) (bytes : List ℕ) → ReadsAs p bytes → Found p bytes → OrderOf p → is_plan (plan_bytes p.plan)
    ≡ true → has_plan bytes ≡ true
unfolding has_plan
plan_holds p bytes r f o h =
    let at = places_in p in
    let a : ends_by (headers_at bytes) (section bytes 4) ≡ true =
    ends _ at.sections _ _ _ f.plan f.headers (omega arith) in
    let b : bytes_in (section bytes 4) bytes ≡ plan_bytes p.plan = ap (λ s. bytes_in s bytes) f.plan ∙ r.plan in
    rw (f.kind, a, b, h) refl

symbols_hold : (p : Parts) (bytes : List ℕ) → Found p bytes → OrderOf p → Small p → has_symbols bytes ≡ true
unfolding has_symbols
symbols_hold p bytes f o s =
    let at = places_in p in
    let a : ends_by (headers_at bytes) (section bytes 5) ≡ true =
    ends _ at.sections _ _ _ f.symbols f.headers (omega arith) in
    let b : ends_by (headers_at bytes) (section bytes 6) ≡ true =
    ends _ at.sections _ _ _ f.strings f.headers (omega arith) in
    let some : nat_lt 0 (length (symbol_bytes p.symbols)) ≡ true = grind (arith, nat_tests) in
    let few : nat_le (length (symbol_bytes p.symbols)) (24 * (1 + MOST_SYMBOLS)) ≡ true = grind (arith, nat_tests) in
    let whole : length (symbol_bytes p.symbols) % 24 ≡ 0 = omega arith in
    rw (a, b, f.symbols, some, few, whole) refl

symbols_read : (p : Parts) (bytes : List ℕ) → ReadsAs p bytes → Found p bytes → Small p → IsWritable p → InRange p
    → symbols_in bytes ≡ Ok p.symbols
unfolding symbols_in
symbols_read p bytes r f s w i =
    let table : bytes_in (section bytes 5) bytes ≡ symbol_bytes p.symbols =
    ap (λ s. bytes_in s bytes) f.symbols ∙ r.symbols in
    let strings : bytes_in (section bytes 6) bytes ≡ string_bytes p.symbols =
    ap (λ s. bytes_in s bytes) f.strings ∙ r.strings in
    let len : (section bytes 5).len ≡ length (symbol_bytes p.symbols) = ap (λ (s : Span). s.len) f.symbols in
    let count : (section bytes 5).len / 24 - 1 ≡ length p.symbols = omega arith in
    rw (table, strings, count) (symbols_back p.symbols w.symbols w.names i.symbols)

parts_read : (p : Parts) (bytes : List ℕ) → ReadsAs p bytes → Found p bytes → Small p → InRange p
    → plan_of (plan_bytes p.plan) ≡ p.plan → parts_in bytes p.symbols ≡ p
unfolding parts_in
parts_read p bytes r f s i plan =
    let part : bytes_in (segment bytes 0) bytes ≡ text_bytes p.text = ap (λ s. bytes_in s bytes) f.text ∙ r.text in
    let len : (segment bytes 0).len ≡ length (text_bytes p.text) = ap (λ (s : Span). s.len) f.text in
    let count : (segment bytes 0).len / 4 ≡ length p.text = omega arith in
    let tables : bytes_in (segment bytes 1) bytes ≡ p.tables = ap (λ s. bytes_in s bytes) f.tables ∙ r.tables in
    let plans : bytes_in (section bytes 4) bytes ≡ plan_bytes p.plan = ap (λ s. bytes_in s bytes) f.plan ∙ r.plan in
    rw (part, count, tables, plans, text_back p.text i.text, plan) refl

same_file : (p : Parts) → compared p (elf_file p) ≡ Ok p
unfolding compared
same_file p = ap (unless_differs p) (no_difference 0 (elf_file p))

-- the file of writable parts is read as them
pub read_back : (p : Parts) → IsWritable p → InRange p → elf_of (elf_file p) ≡ Ok p
unfolding elf_of with_symbols
read_back p w i =
    let b = elf_file p in
    let r = reads_as p b refl in
    let o = order_of p in
    let s = small p w in
    let f = found p b r o s in
    let l = plan_back p.plan w.topo w.template i.seed in
    let whole = r.whole in
    let head : header_fault b ≡ None = header_back (places_in p).sections b _ (omega arith) (omega arith) whole
    (fronts _ b r.file_header) in
    rw (
      head,
      text_holds p b f o s,
      plan_holds p b r f o l.holds,
      symbols_hold p b f o s,
      symbols_read p b r f s w i,
      parts_read p b r f s i l.read,
      same_file p,
    ) refl

fault_cases : (e : ElfFault) → (e ≡ NoMemory) ⊎ (e ≢ NoMemory)
fault_cases (Short n) = inr (λ h. cc)
fault_cases BadMagic = inr (λ h. cc)
fault_cases (NotRiscv n) = inr (λ h. cc)
fault_cases (NotExec n) = inr (λ h. cc)
fault_cases (BadHeader n) = inr (λ h. cc)
fault_cases (BadSegment n) = inr (λ h. cc)
fault_cases NoPlan = inr (λ h. cc)
fault_cases (BadSymbol n) = inr (λ h. cc)
fault_cases (Differs n) = inr (λ h. cc)
fault_cases NoMemory = inl refl

-- so nothing else is answered for it, unless memory runs out
pub only_reads : (bytes : List ℕ) (r : Result Parts ElfFault) → IfOk r (λ p. elf_of bytes ≡ Ok p)
    → IfErr r (λ e. e ≢ NoMemory → elf_of bytes ≡ Err e)
    → (p : Parts) → IsWritable p → InRange p → elf_file p ≡ bytes → MatchResult r (λ q. q ≡ p) (λ e. e ≡ NoMemory)
only_reads bytes (Ok q) ok err p w i e =
    let back : elf_of bytes ≡ Ok p = ap elf_of (sym e) ∙ read_back p w i in
    cc
only_reads bytes (Err e) ok err p w i same =
    let back : elf_of bytes ≡ Ok p = ap elf_of (sym same) ∙ read_back p w i in
    ⊎_elim (λ (m : e ≡ NoMemory). m) (λ (n : e ≢ NoMemory). let fault : elf_of bytes ≡ Err e = err n in
    cc) (fault_cases e)
