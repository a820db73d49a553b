use Rattle.std.specs.Prelude.{Some, None}
use Rattle.vk_json.proofs.WordLemmas.{why_found}
use Rattle.vk_json.proofs.words.named.Goals as goal

pub returns-in-None-clause-found : goal.returns-in-None-clause-found
returns-in-None-clause-found c = rw (c.copied.ensures, c.first_named.ensures, c.in-None.is) (why_found c.args.name.now None)

pub returns-in-Some-clause-found : goal.returns-in-Some-clause-found
returns-in-Some-clause-found c = rw (c.copied-in-Some.ensures, c.first_named-in-Some.ensures, c.in-Some.is) (why_found c.args.name.now (Some c.in-Some.n))
