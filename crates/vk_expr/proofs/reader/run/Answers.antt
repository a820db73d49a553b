use Rattle.std.proofs.Common.{◌≡◌, ◌+◌, ◌∙◌, ap, drop, get_or}
use Rattle.std.proofs.lemmas.Result.{err_from_is_err_and}
use Rattle.vk_expr.specs.Tokens.{is_word_byte, tokens_from, tokens_of}
use Rattle.vk_expr.specs.Reading.{start, steps}
use Rattle.vk_base.specs.Stops.{fault_in}
use Rattle.vk_expr.specs.ReaderViews.{state_of}
use Rattle.vk_expr.proofs.RunLemmas.{goes_on, fails_on, ends_on}
use Rattle.vk_expr.proofs.reader.run.Goals as goal

pub returns-in_err-state : goal.returns-in_err-state
returns-in_err-state c =
    let p = err_from_is_err_and c.from_residual.result c.from_residual.ensures.1 in
    rw (p.1, p.2)
    (fails_on (fault_in c.in_err-state.field-0.0) c.args.bytes.now (state_of c.loop-at.state) c.loop-at.at c.loop-at.inside (steps start (tokens_of c.args.bytes.now)) c.loop-at-test.true c.in_err-state.ensures c.loop-at.invariant)

pub loop-at-preserved : goal.loop-at-preserved
loop-at-preserved c =
    let same : c.is_word_byte-inside.result ≡ is_word_byte (get_or c.args.bytes.now c.loop-at.at 0) = c.is_word_byte-inside.ensures in
    ap (λ b. steps (state_of c.in_ok-state.state) (tokens_from (c.loop-at.at + 1) b (drop (c.loop-at.at + 1) c.args.bytes.now))) same
    ∙ goes_on c.args.bytes.now (state_of c.loop-at.state) (state_of c.in_ok-state.state) c.loop-at.at c.loop-at.inside (steps start (tokens_of c.args.bytes.now)) c.loop-at-test.true c.in_ok-state.ensures c.loop-at.invariant

pub returns : goal.returns
returns c = ends_on c.args.bytes.now (state_of c.loop-at.state) c.loop-at.at c.loop-at.inside (steps start (tokens_of c.args.bytes.now)) c.loop-at-test.false c.loop-at.invariant
