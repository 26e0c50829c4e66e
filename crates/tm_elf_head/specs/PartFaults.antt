-- What is at fault in the ranges of a file, and in its plan.
use Rattle.std.specs.Prelude.{ℕ, List, Bool, Option, Some, None, ◌+◌, ◌*◌, ◌%◌, ◌==◌, ◌&&◌, not, nat_lt, nat_le}
use Rattle.std.specs.Prelude.{if◌then◌else◌, length, take, drop}
use Rattle.tm_base.specs.Limits.{image_version}
use Rattle.tm_base.specs.declared.limits.TheConstants.{TEXT_WORDS, TABLES_BYTES, TOPOLOGY_BYTES, TEMPLATE_BYTES}
use Rattle.tm_elf_write.specs.Plan.{plan_mark}
use Rattle.tm_elf_write.specs.declared.parts.Plan.{Plan}
use Rattle.tm_elf_write.specs.declared.parts.TheConstants.{MOST_SYMBOLS}
use Rattle.tm_elf_head.specs.Differences.{differ}
use Rattle.tm_elf_head.specs.Numbers.{word_at, long_at}
use Rattle.tm_elf_head.specs.Spans.{headers_at, segment, section, ends_by, bytes_in}

-- whether the first program header gives a text: before the section headers, and of 1 to 2,097,152 words (this project)
unfoldable pub is_text : List ℕ → Bool
is_text bytes = ends_by (headers_at bytes) (segment bytes 0)
    && (nat_le (segment bytes 0).len (4 * TEXT_WORDS)
    && (nat_lt 0 (segment bytes 0).len && ((segment bytes 0).len % 4 == 0)))

-- whether the second gives tables: before the section headers, and of at most 4,194,304 bytes (this project)
unfoldable pub is_tables : List ℕ → Bool
is_tables bytes = ends_by (headers_at bytes) (segment bytes 1) && nat_le (segment bytes 1).len TABLES_BYTES

-- the least program header at fault, of the two whose bytes are read (this project)
unfoldable pub bad_segment : List ℕ → Option ℕ
bad_segment bytes = if is_text bytes then (if is_tables bytes then None else Some 1) else Some 0

-- whether bytes are a plan: the magic, the seed, two lengths within the limits of the two texts, and texts of these
-- lengths up to the end (this project)
unfoldable pub is_plan : List ℕ → Bool
is_plan bytes =
    nat_le 24 (length bytes) && (not (differ (take 8 bytes) (plan_mark image_version))
    && (nat_le (word_at bytes 16) TOPOLOGY_BYTES && (nat_le (word_at bytes 20) TEMPLATE_BYTES
    && (24 + word_at bytes 16 + word_at bytes 20 == length bytes))))

-- the plan that bytes are (this project)
unfoldable pub plan_of : List ℕ → Plan
plan_of bytes = record {
  seed = long_at bytes 8;
  topo = take (word_at bytes 16) (drop 24 bytes);
  template = drop (24 + word_at bytes 16) bytes;
}

-- whether section 4 is of type SHT_PROGBITS (ELF gABI), ends by the section headers and is a plan (this project)
unfoldable pub has_plan : List ℕ → Bool
has_plan bytes = (word_at bytes (headers_at bytes + (64 * 4 + 4)) == 1)
    && (ends_by (headers_at bytes) (section bytes 4) && is_plan (bytes_in (section bytes 4) bytes))

-- whether sections 5 and 6 end by the section headers, and section 5 has 1 to 65,536 entries of 24 bytes (this project)
unfoldable pub has_symbols : List ℕ → Bool
has_symbols bytes =
    ends_by (headers_at bytes) (section bytes 5) && (ends_by (headers_at bytes) (section bytes 6)
    && (nat_lt 0 (section bytes 5).len && (nat_le (section bytes 5).len (24 * (1 + MOST_SYMBOLS))
    && ((section bytes 5).len % 24 == 0))))
