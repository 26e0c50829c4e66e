use Rattle.std.proofs.Common.{◌≡◌, ℕ, List, ◌++◌, ◌∙◌, ap}
use Rattle.tm_elf_write.specs.Elf.{file}
use Rattle.tm_elf_write.proofs.write.file_of.Goals as goal

-- one more part
then : {now old all : List ℕ} (part : List ℕ) → now ≡ old ++ part → old ≡ all → now ≡ all ++ part
then part e d = e ∙ ap (λ front. front ++ part) d

pub returns : goal.returns
unfolding file
returns c =
    rw (← c.places_of-at.ensures.value)
    (then _ c.in_ok-put_sections.ensures
    (then _ c.in_ok-put_zeros-5.ensures
    (then _ c.in_ok-put_names.ensures
    (then _ c.in_ok-append-5.ensures.ok
    (then _ c.in_ok-append-4.ensures.ok
    (then _ c.in_ok-put_zeros-4.ensures
    (then _ c.in_ok-append-3.ensures.ok
    (then _ c.in_ok-put_zeros-3.ensures
    (then _ c.in_ok-append-2.ensures.ok
    (then _ c.in_ok-put_zeros-2.ensures
    (then _ c.in_ok-append.ensures.ok
    (then _ c.in_ok-put_zeros.ensures
    (then _ c.in_ok-put_segments.ensures
    (then _ c.in_ok-put_header.ensures c.new-out.ensures))))))))))))))
