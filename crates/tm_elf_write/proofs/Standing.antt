-- What stands where in the file.
use Rattle.std.proofs.Common.{◌≡◌, ◌∙◌, ◌≤◌, ◌+◌, ◌-◌, ◌*◌, ◌/◌, ℕ, List, [], ◌∷◌, ◌++◌, length, take, drop, ap}
use Rattle.std.proofs.Common.{subst, sym, refl, arith, length-append}
use Rattle.std.specs.Int.{to_le_bytes, w64}
use Rattle.std.proofs.lemmas.List.{append_assoc, length-replicate, nil_from_length}
use Rattle.std.proofs.Math.Seq.{take-append_seam, drop-append_seam}
use Rattle.tm_elf_write.specs.declared.parts.Parts.{Parts}
use Rattle.tm_elf_write.specs.declared.places.Places.{Places}
use Rattle.tm_elf_write.specs.Fields.{field_bytes, bytes_of, zeros}
use Rattle.tm_elf_write.specs.Places.{places}
use Rattle.tm_elf_write.specs.Header.{header, first_bytes}
use Rattle.tm_elf_write.specs.Segments.{segment_fields, segments, segments_bytes}
use Rattle.tm_elf_write.specs.Sections.{section_fields, section_names, sections, sections_bytes}
use Rattle.tm_elf_write.specs.Plan.{plan_bytes}
use Rattle.tm_elf_write.specs.Symbols.{symbol_bytes, string_bytes}
use Rattle.tm_elf_write.specs.Elf.{elf_file, file, text_bytes}
use Rattle.tm_elf_write.specs.Stands.{StandsAt, ReadsAs, places_in}

-- bytes of this length
record Fills (n : ℕ) (bytes : List ℕ) : Type 0 where
  is : length bytes ≡ n

-- bytes in which a part begins at this place
record Within (place : ℕ) (part bytes : List ℕ) : Type 0 where
  front : List ℕ
  rest : List ℕ
  before : length front ≡ place
  whole : bytes ≡ front ++ (part ++ rest)

append_nothing : (xs : List ℕ) → xs ≡ xs ++ []
append_nothing [] = refl
append_nothing (x ∷ xs) = ap (λ ys. x ∷ ys) (append_nothing xs)

then_part : {n : ℕ} {bytes : List ℕ} (part : List ℕ) → Fills n bytes → Fills (n + length part) (bytes ++ part)
then_part {bytes = bytes} part f = record { is = length-append bytes part ∙ ap (λ k. k + length part) f.is }

up_to : {n : ℕ} {bytes : List ℕ} (m : ℕ) → n ≤ m → Fills n bytes → Fills m (bytes ++ zeros (m - n))
up_to {n = n} {bytes = bytes} m le f =
    record { is = omega (arith, length-append bytes (zeros (m - n)), length-replicate {A = ℕ} (m - n) 0, f.is, le) }

exactly : {n m : ℕ} {bytes : List ℕ} → n ≡ m → Fills n bytes → Fills m bytes
exactly e f = record { is = f.is ∙ e }

last : {n : ℕ} {bytes : List ℕ} (part : List ℕ) → Fills n bytes → Within n part (bytes ++ part)
last {bytes = bytes} part f = record {
  front = bytes;
  rest = [];
  before = f.is;
  whole = ap (λ ys. bytes ++ ys) (append_nothing part);
}

more : {place : ℕ} {part bytes : List ℕ} (tail : List ℕ) → Within place part bytes → Within place part (bytes ++ tail)
more {part = part} tail w = record {
  front = w.front;
  rest = w.rest ++ tail;
  before = w.before;
  whole = ap (λ b. b ++ tail) w.whole ∙ append_assoc w.front (part ++ w.rest) tail ∙ ap (λ b. w.front ++ b)
      (append_assoc part w.rest tail);
}

stands : {place : ℕ} {part bytes : List ℕ} → Within place part bytes → StandsAt place part bytes
stands {place = place} {part = part} w =
    ap (λ b. take (length part) (drop place b)) w.whole
    ∙ ap (λ n. take (length part) (drop n (w.front ++ (part ++ w.rest)))) (sym w.before)
    ∙ ap (λ b. take (length part) b) (drop-append_seam w.front (part ++ w.rest))
    ∙ take-append_seam part w.rest

-- the places of parts are in order, and not far
next_page : (n : ℕ) → (n ≤ (n + (4096 - 1)) / 4096 * 4096) × ((n + (4096 - 1)) / 4096 * 4096 ≤ n + 4095)
next_page n = (omega arith, omega arith)

next_eight : (n : ℕ) → (n ≤ (n + (8 - 1)) / 8 * 8) × ((n + (8 - 1)) / 8 * 8 ≤ n + 7)
next_eight n = (omega arith, omega arith)

pub record InOrder (text tables plan symbols strings : ℕ) (p : Places) : Type 0 where
  pub tables_at : 4096 + text ≤ p.tables
  pub tables_near : p.tables ≤ 4096 + text + 4095
  pub plan_at : p.tables + tables ≤ p.plan
  pub plan_near : p.plan ≤ p.tables + tables + 7
  pub symbols_at : p.plan + plan ≤ p.symbols
  pub symbols_near : p.symbols ≤ p.plan + plan + 7
  pub strings_at : p.symbols + symbols ≡ p.strings
  pub names_at : p.strings + strings ≡ p.names
  pub sections_at : p.names + 55 ≤ p.sections
  pub sections_near : p.sections ≤ p.names + 55 + 7

pub in_order : (text tables plan symbols strings : ℕ)
    → InOrder text tables plan symbols strings (places text tables plan symbols strings)
unfolding places
in_order text tables plan symbols strings = record {
  tables_at = (next_page _).0;
  tables_near = (next_page _).1;
  plan_at = (next_eight _).0;
  plan_near = (next_eight _).1;
  symbols_at = (next_eight _).0;
  symbols_near = (next_eight _).1;
  strings_at = refl;
  names_at = refl;
  sections_at = (next_eight _).0;
  sections_near = (next_eight _).1;
}

-- lengths of the headers and names
header_fills : (n : ℕ) → Fills 64 (bytes_of (header n))
unfolding header field_bytes
header_fills n = record { is = refl }

segments_length : (text tables : ℕ) (p : Places) → length (segments_bytes (segments text tables p)) ≡ 168
unfolding segments segment_fields field_bytes
segments_length text tables p = refl

sections_length : (text tables plan symbols strings : ℕ) (p : Places)
    → length (sections_bytes (sections text tables plan symbols strings p)) ≡ 512
unfolding sections section_fields field_bytes
sections_length text tables plan symbols strings p = refl

names_length : length section_names ≡ 55
unfolding section_names
names_length = refl

headers_fill : (text tables n : ℕ) (p : Places)
    → Fills 4096 (bytes_of (header n) ++ segments_bytes (segments text tables p) ++ zeros (4096 - (64 + 3 * 56)))
headers_fill text tables n p =
    up_to {n = 64 + 3 * 56} 4096 (omega arith) (exactly (omega (arith, segments_length text tables p))
    (then_part (segments_bytes (segments text tables p)) (header_fills n)))

-- the file's parts, from the bytes alone
record FileStands (text tables plan symbols strings : List ℕ) (p : Places) (bytes : List ℕ) : Type 0 where
  header_at : Within 0 (bytes_of (header p.sections)) bytes
  segments_at : Within 64 (segments_bytes (segments (length text) (length tables) p)) bytes
  text_at : Within 4096 text bytes
  tables_at : Within p.tables tables bytes
  plan_at : Within p.plan plan bytes
  symbols_at : Within p.symbols symbols bytes
  strings_at : Within p.strings strings bytes
  names_at : Within p.names section_names bytes
  sections_at : Within p.sections (sections_bytes (sections (length text) (length tables) (length plan) (length symbols)
      (length strings) p)) bytes
  whole : Fills (p.sections + 512) bytes

file_stands : (text tables plan symbols strings : List ℕ)
    → FileStands text tables plan symbols strings (places (length text) (length tables) (length plan) (length symbols)
    (length strings)) (file text tables plan symbols strings)
unfolding file
file_stands text tables plan symbols strings =
    let p = places (length text) (length tables) (length plan) (length symbols) (length strings) in
    let order = in_order (length text) (length tables) (length plan) (length symbols) (length strings) in
    let head = bytes_of (header p.sections) in
    let to_text = headers_fill (length text) (length tables) p.sections p in
    let to_tables = up_to p.tables order.tables_at (then_part text to_text) in
    let to_plan = up_to p.plan order.plan_at (then_part tables to_tables) in
    let to_symbols = up_to p.symbols order.symbols_at (then_part plan to_plan) in
    let to_strings = exactly order.strings_at (then_part symbols to_symbols) in
    let to_names = exactly order.names_at (then_part strings to_strings) in
    let to_sections =
    up_to p.sections order.sections_at (exactly (ap (λ n. p.names + n) names_length)
    (then_part section_names to_names)) in
    let rows_of_segments = segments_bytes (segments (length text) (length tables) p) in
    let rows = sections_bytes (sections (length text) (length tables) (length plan) (length symbols) (length strings) p)
    in
    let front : Within 0 head head = record { front = []; rest = []; before = refl; whole = append_nothing head } in
    record {
      header_at = more _
          (more _ (more _
          (more _ (more _ (more _ (more _ (more _ (more _ (more _ (more _ (more _ (more _ front))))))))))));
      segments_at =
          more _ (more _
          (more _ (more _
          (more _ (more _
          (more _ (more _ (more _ (more _ (more _ (more _ (last rows_of_segments (header_fills p.sections)))))))))))));
      text_at = more _
          (more _ (more _ (more _ (more _ (more _ (more _ (more _ (more _ (more _ (last text to_text))))))))));
      tables_at = more _ (more _ (more _ (more _ (more _ (more _ (more _ (more _ (last tables to_tables))))))));
      plan_at = more _ (more _ (more _ (more _ (more _ (more _ (last plan to_plan))))));
      symbols_at = more _ (more _ (more _ (more _ (last symbols to_symbols))));
      strings_at = more _ (more _ (more _ (last strings to_strings)));
      names_at = more _ (more _ (last section_names to_names));
      sections_at = last rows to_sections;
      whole = exactly (ap (λ n. p.sections + n) (sections_length (length text) (length tables) (length plan)
          (length symbols) (length strings) p)) (then_part rows to_sections);
    }

-- the header's bytes
first_of_header : (n : ℕ) (rest : List ℕ) → take 40 (bytes_of (header n) ++ rest) ≡ first_bytes
unfolding header field_bytes first_bytes
first_of_header n rest = refl

sections_in_header : (n : ℕ) (rest : List ℕ) → take 8 (drop 40 (bytes_of (header n) ++ rest)) ≡ to_le_bytes w64 n
unfolding header field_bytes
sections_in_header n rest = refl

-- the file of parts
stand_in : (p : Parts) → FileStands (text_bytes p.text) p.tables (plan_bytes p.plan) (symbol_bytes p.symbols)
    (string_bytes p.symbols) (places_in p) (elf_file p)
unfolding places_in
stand_in p = file_stands (text_bytes p.text) p.tables (plan_bytes p.plan) (symbol_bytes p.symbols)
    (string_bytes p.symbols)

at_begin : {part bytes : List ℕ} (w : Within 0 part bytes) → bytes ≡ part ++ w.rest
at_begin {part = part} w = w.whole ∙ ap (λ front. front ++ (part ++ w.rest)) (nil_from_length w.front w.before)

begins : (p : Parts) → take 40 (elf_file p) ≡ first_bytes
begins p =
    let w = (stand_in p).header_at in
    ap (λ b. take 40 b) (at_begin w) ∙ first_of_header _ w.rest

shoff : (p : Parts) → take 8 (drop 40 (elf_file p)) ≡ to_le_bytes w64 (length (elf_file p) - 512)
shoff p =
    let f = stand_in p in
    let w = f.header_at in
    let whole = f.whole.is in
    ap (λ b. take 8 (drop 40 b)) (at_begin w) ∙ sections_in_header _ w.rest ∙ ap (λ n. to_le_bytes w64 n)
    (omega (arith, whole))

-- what a reader finds in the file
pub reads_as : (p : Parts) (bytes : List ℕ) → bytes ≡ elf_file p → ReadsAs p bytes
reads_as p bytes e =
    let f = stand_in p in
    subst (λ b. ReadsAs p b) (sym e) (record {
      begins = begins p;
      shoff = shoff p;
      file_header = stands f.header_at;
      program_headers = stands f.segments_at;
      text = stands f.text_at;
      tables = stands f.tables_at;
      plan = stands f.plan_at;
      symbols = stands f.symbols_at;
      strings = stands f.strings_at;
      names = stands f.names_at;
      section_headers = stands f.sections_at;
      whole = f.whole.is;
    })
