-- How verdicts are printed.
use Rattle.std.specs.Prelude.{ℕ, List, ◌++◌, codes}
use Rattle.std.specs.Fmt.{signed_decimal}
use Rattle.verdict.specs.declared.yesno.YesNo.{YesNo}
use Rattle.verdict.specs.declared.yesno.YesNo.TheVariants.{No, Yes}
use Rattle.verdict.specs.declared.margin.Margin.{Margin}
use Rattle.verdict.specs.declared.span.Span.{Span}

abbrev pub yesno_text : YesNo → List ℕ
yesno_text Yes = codes "y"
yesno_text No = codes "n"

-- in decimal, with a minus sign below zero
abbrev pub margin_text : Margin → List ℕ
margin_text m = signed_decimal m.value

-- the low verdict, two dots, the high verdict
abbrev pub span_text : {V : Type 0} → (V → List ℕ) → Span V → List ℕ
span_text text v = text v.low ++ (codes ".." ++ text v.high)
