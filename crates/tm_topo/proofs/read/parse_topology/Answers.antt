use Rattle.std.proofs.Common.{◌≡◌, true, inl, inr, None, Some}
use Rattle.toml.specs.View.{table_view}
use Rattle.std.specs.Str.{is_utf8}
use Rattle.std.proofs.lemmas.Bool.{cases_Bool, false≢true}
use Rattle.std.proofs.lemmas.Str.{IsUtf8-from_is_utf8, is_utf8-from_IsUtf8}
use Rattle.toml.specs.Parse.{parse_document}
use Rattle.tm_topo.specs.Reading.{topology_of, document}
use Rattle.tm_topo.proofs.RangeLemmas.{range_of}
use Rattle.tm_topo.proofs.read.parse_topology.Goals as goal

pub returns-in-Err-clause-err : goal.returns-in-Err-clause-err
unfolding topology_of document
returns-in-Err-clause-err c _ =
    elim (cases_Bool (is_utf8 c.args.text.now)) [
      | inl valid ↦ let none : parse_document c.args.text.now ≡ None = c.in-Err.ensures.refused
          (λ e. false≢true (c.if-is_memory.ensures.1 e)) (IsUtf8-from_is_utf8 _ valid) in rw (valid, none)
      | inr broken ↦ rw broken
    ]

pub returns-clause-ok : goal.returns-clause-ok
unfolding topology_of document
returns-clause-ok c =
    let valid : is_utf8 c.args.text.now ≡ true = is_utf8-from_IsUtf8 _ c.in-Ok.ensures.ok.0 in
    rw (valid, c.in-Ok.ensures.ok.1) c.topology_in.ensures.ok

pub returns-clause-err : goal.returns-clause-err
unfolding topology_of document
returns-clause-err c =
    let valid : is_utf8 c.args.text.now ≡ true = is_utf8-from_IsUtf8 _ c.in-Ok.ensures.ok.0 in
    rw (valid, c.in-Ok.ensures.ok.1) c.topology_in.ensures.err

pub returns-clause-range : goal.returns-clause-range
returns-clause-range c = range_of (Some (table_view c.in-Ok.table)) c.topology_in.result c.topology_in.ensures.ok
