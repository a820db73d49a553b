use Rattle.std.proofs.Common.{◌≡◌, ◌∙◌, sym, ap, true, false}
use Rattle.std.specs.Prelude.{Ok}
use Rattle.vk_spec.specs.Conditions.{negation}
use Rattle.vk_expr.specs.Views.{condition_of}
use Rattle.vk_expr.specs.ReaderViews.{frames_of, is_negated}
use Rattle.vk_expr.proofs.FrameLemmas.{unwinds_on, rests}
use Rattle.vk_expr.proofs.reader.settled.Goals as goal

pub loop-alloc-preserved : goal.loop-alloc-preserved
loop-alloc-preserved c =
    let negated : is_negated (frames_of c.loop-alloc.frames) ≡ true = sym c.is_negated.ensures ∙ c.loop-alloc-test.true in
    let same : condition_of c.in_ok-value.value ≡ negation (condition_of c.loop-alloc.value) = cc (c.in_ok-value.ensures) in
    unwinds_on c.loop-alloc.frames c.pop.new.self c.pop.result _ (condition_of c.loop-alloc.value) (condition_of c.in_ok-value.value) _ c.pop.ensures.last c.pop.ensures.rest negated same c.loop-alloc.invariant

pub returns : goal.returns
returns c =
    let rested : is_negated (frames_of c.loop-alloc.frames) ≡ false = sym c.is_negated.ensures ∙ c.loop-alloc-test.false in
    ap Ok (sym c.loop-alloc.invariant ∙ rests (frames_of c.loop-alloc.frames) _ (condition_of c.loop-alloc.value) rested)
