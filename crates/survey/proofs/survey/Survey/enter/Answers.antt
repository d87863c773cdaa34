use Rattle.std.proofs.Common.{◌≡◌, false, Some, rules}
use Rattle.refusal.specs.declared.Refusal.TheVariants.{NoRange}
use Rattle.reading.specs.Ends.{ends, is_range, made_of}
use Rattle.store.specs.Stored.{stored}
use Rattle.survey.specs.Surveys.{survey_of, found, entry_refusal}
use Rattle.survey.proofs.Entries.{answers, holds, no_range}
use Rattle.survey.proofs.survey.Survey.enter.Goals as goal

pub returns : goal.returns
returns g c =
    let e = c.args.entry in
    let s = survey_of g.S.Store.most g.S.Readings.ranges c.args.self.now in
    let after = stored (g.S.Store.most c.enter.new.self) (g.S.Readings.ranges c.enter.new.self) in
    let cell : found s e ≡ Some c.in_ok-cell.cell = search rules in
    let ranged : made_of e.low e.high ≡ Some (ends c.in_ok-range.range) = search rules in
    record {
      answers = answers s e c.in_ok-cell.cell (ends c.in_ok-range.range) c.enter.result after cell ranged c.enter.ensures;
      after = holds s e c.in_ok-cell.cell (ends c.in_ok-range.range) c.enter.result after cell ranged c.enter.ensures;
    }

pub returns-in_err-range-clause-answers : goal.returns-in_err-range-clause-answers
returns-in_err-range-clause-answers g c =
    let s = survey_of g.S.Store.most g.S.Readings.ranges c.args.self.now in
    let cell : found s c.args.entry ≡ Some c.in_ok-cell.cell = search rules in
    let bad : is_range c.args.entry.low c.args.entry.high ≡ false = search rules in
    let why : entry_refusal s c.args.entry ≡ Some NoRange = no_range s c.args.entry c.in_ok-cell.cell cell bad in
    search rules

pub returns-in_err-range-clause-after : goal.returns-in_err-range-clause-after
returns-in_err-range-clause-after g c =
    let s = survey_of g.S.Store.most g.S.Readings.ranges c.args.self.now in
    let cell : found s c.args.entry ≡ Some c.in_ok-cell.cell = search rules in
    let bad : is_range c.args.entry.low c.args.entry.high ≡ false = search rules in
    let why : entry_refusal s c.args.entry ≡ Some NoRange = no_range s c.args.entry c.in_ok-cell.cell cell bad in
    search rules
