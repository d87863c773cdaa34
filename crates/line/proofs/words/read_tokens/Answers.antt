-- The proof of read_tokens.
use Rattle.std.proofs.Common.{◌==◌, Some, sym, ap, ◌∙◌, arith, rules, tests}
use Rattle.std.specs.Slice.Iter.{split_rest, split_done, split_callee}
use Rattle.std.proofs.lemmas.Iterator.{YieldsList-from_map_by}
use Rattle.std.proofs.lemmas.Iterator.Consumers.{map_from_collect}
use Rattle.std.proofs.lemmas.Iterator.Splits.{YieldsList-from_slice_split}
use Rattle.std.proofs.lemmas.Result.{IfOk-at_ok}
use Rattle.std.proofs.lemmas.Slice.{between_to_end}
use Rattle.line.specs.Line.{field, token_field}
use Rattle.line.proofs.Cuts.{fields_spaced}
use Rattle.line.proofs.words.read_tokens.Goals as goal

-- The words that `split` gives, each read as a token.
pub returns : goal.returns
returns c =
    let s = c.args.text.now in
    let from = c.map.ensures.source in
    let said = c.split.ensures in
    let read =
    map_from_collect _ c.collect.ensures.ran
    (YieldsList-from_map_by _ token_field field
    (YieldsList-from_slice_split _ (λ b. b == 32) (split_rest c.split.result) (ap split_rest from) (ap split_done from ∙ said.done) (ap split_callee from ∙ said.closure) (λ x r q k. search (rules, tests)))
    c.map.ensures.closure
    (λ x r q k. search rules))
    in
    ap Some (IfOk-at_ok _ c.in_ok-tokens.was read)
    ∙ sym (fields_spaced s _ (search rules) (search rules) (said.rest ∙ between_to_end s 1 _ (omega arith)))
