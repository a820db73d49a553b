use Rattle.std.proofs.Common.{sym, subst}
use Rattle.vk_spec.specs.Lists.{NoRepeats}
use Rattle.vk_files.specs.Views.{same_path}
use Rattle.vk_files.proofs.CacheLemmas.{paths_kept, same_self}
use Rattle.vk_files.proofs.NoteLemmas.{distinct_once}
use Rattle.vk_files.proofs.caches.FileCache.known.Goals as goal

pub returns : goal.returns
returns c = subst NoRepeats (sym (paths_kept c.args.self.now.found.entries)) (distinct_once same_path same_self _ c.len.ensures.unique)
