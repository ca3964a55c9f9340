use Rattle.std.proofs.Common.{◌+◌, get_or, drop, sym, ◌∙◌, arith}
use Rattle.std.proofs.lemmas.List.{at_drop_more}
use Rattle.text.proofs.Values.{within_from, within_digit, within_past}
use Rattle.text.proofs.numbers.value.Goals as goal

pub returns-then-n-from : goal.returns-then-n-from
returns-then-n-from c =
    let ds = c.args.digits.now in
    let i = c.loop-d.d-index in
    sym (c.loop-d.invariant.1 ∙ at_drop_more (within_from c.args.most c.loop-d.n) ds i 0 c.loop-d-test.true
    ∙ within_digit c.args.most c.loop-d.n (get_or ds i 0) (drop (i + 1) ds) (sym c.if-not-is_ascii_digit.ensures.value)
    ∙ within_past c.args.most _ (drop (i + 1) ds) (omega arith))
