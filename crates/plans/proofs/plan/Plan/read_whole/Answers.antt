use Rattle.std.proofs.Common.{◌≡◌, sym, ap, ◌∙◌, subst}
use Rattle.std.proofs.lemmas.Result.{err_from_is_err_and}
use Rattle.model.specs.Plan as model
use Rattle.text.specs.Scan.{start, took}
use Rattle.text.specs.Cursor.{scan_of}
use Rattle.syntax.specs.Reading.{header, body, outcome, ComesTo, opened, onward}
use Rattle.syntax.proofs.Fitting.{item_keeps}
use Rattle.syntax.proofs.Whole.{rest_over, rest_refused, rest_taken, fewer_below, reading_on}
use Rattle.plans.specs.Meaning.{plan_of}
use Rattle.plans.proofs.plan.Plan.read_whole.Goals as goal

pub loop-tokens-init : goal.loop-tokens-init
loop-tokens-init g c =
    let f = g.K.Spelling.formats in
    let p = plan_of c.in_ok-plan.plan in
    let z = scan_of c.read_header.new.tokens in
    let h : header f (start c.args.text.now) ≡ took p z = sym (c.in_ok-plan.ensures ∙ ap (header f) c.new-tokens.ensures) in
    (reading_on g.K.Kind.answers f c.args.text.now p z c.if-text-gt-MOST_BYTES.false h, opened c.if-text-gt-MOST_BYTES.false h)

pub returns-in_err-item : goal.returns-in_err-item
returns-in_err-item g c =
    let p = err_from_is_err_and c.from_residual-in_err-item.result c.from_residual-in_err-item.ensures.1 in
    let h = c.loop-tokens.invariant.0
    ∙ ap outcome (rest_refused g.K.Kind.answers g.K.Spelling.formats (plan_of c.loop-tokens.plan) (scan_of c.loop-tokens.tokens) (sym c.loop-tokens-test.ensures) (sym c.in_err-item.ensures)) in
    rw (p.1, p.2) h

pub add-requires : goal.add-requires
add-requires g c =
    item_keeps g.K.Kind.answers g.K.Spelling.formats (plan_of c.loop-tokens.plan) (scan_of c.loop-tokens.tokens) c.loop-tokens.plan.well_formed (sym c.in_ok-item.ensures)

pub loop-tokens-smaller : goal.loop-tokens-smaller
loop-tokens-smaller g c =
    fewer_below g.K.Kind.answers g.K.Spelling.formats (plan_of c.loop-tokens.plan) (scan_of c.loop-tokens.tokens) (sym c.in_ok-item.ensures)

pub loop-tokens-preserved : goal.loop-tokens-preserved
loop-tokens-preserved g c =
    let k = g.K.Kind.answers in
    let f = g.K.Spelling.formats in
    let z = scan_of c.read_item.new.tokens in
    let more = sym c.in_ok-add.ensures in
    let h = sym c.in_ok-item.ensures in (
      c.loop-tokens.invariant.0
          ∙ ap outcome (rest_taken k f (plan_of c.loop-tokens.plan) (scan_of c.loop-tokens.tokens) h)
          ∙ ap (λ (p : model.Plan _ _ _). outcome (body k f z.below p z)) more,
      subst (λ (p : model.Plan _ _ _). ComesTo k f c.args.text.now p z) more (onward c.loop-tokens.invariant.1 h),
    )

pub returns : goal.returns
returns g c =
    c.loop-tokens.invariant.0
    ∙ ap outcome
    (rest_over g.K.Kind.answers g.K.Spelling.formats (plan_of c.loop-tokens.plan) (scan_of c.loop-tokens.tokens) (sym c.loop-tokens-test.ensures))
