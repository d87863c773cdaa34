-- The proof of all_numbers.
use Rattle.std.proofs.Common.{is_some, sym, ◌∙◌, rules, tests}
use Rattle.std.proofs.lemmas.Iterator.{YieldsList-from_slice}
use Rattle.std.proofs.lemmas.Iterator.Search.{all_from_yields_List}
use Rattle.std.proofs.lemmas.List.Folds.{list_all-map}
use Rattle.line.specs.Line.{integer, token_field}
use Rattle.command.proofs.rows.all_numbers.Goals as goal

-- The search sees no list of tokens behind the `all`.
pub returns : goal.returns
returns c =
    let ts = c.args.fields.now in
    all_from_yields_List (λ t. is_some (integer (token_field t))) _ _ _ c.all.ensures.ran (YieldsList-from_slice ts cc) (λ x b q k. search (rules, tests))
    ∙ sym (list_all-map (λ f. is_some (integer f)) token_field ts)
