use Rattle.vk_version.proofs.TestLemmas.{answers}
use Rattle.vk_version.proofs.versions.order.Goals as goal

pub returns : goal.returns
returns c =
    let told = answers c.args.a.now c.args.b.now c.compare.result c.compare.ensures in
    record {
      less = told.less;
      equal = told.equal;
      greater = told.greater;
      none = told.none;
      tested = c.compare.ensures;
    }
