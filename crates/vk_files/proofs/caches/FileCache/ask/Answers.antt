use Rattle.std.proofs.Common.{◌≡◌, ◌∙◌, sym, ap, rules}
use Rattle.vk_files.specs.Views.{kept_at, same_path, seen_view}
use Rattle.vk_files.proofs.NotedLemmas.{noted, length_noted, last_note}
use Rattle.vk_files.proofs.CacheLemmas.{same_self}
use Rattle.vk_files.proofs.caches.FileCache.ask.Goals as goal

pub returns-clause-there : goal.returns-clause-there
returns-clause-there g c =
    let same : c.in_ok-key.key ≡ c.args.path.now = search rules in
    let kept = noted seen_view c.reserve.new.self.entries in
    rw (c.keep.ensures, c.len-place.ensures.len ∙ sym (length_noted seen_view c.reserve.new.self.entries), same)
    (last_note same_path c.args.path.now (seen_view c.in_ok-found.found) kept (same_self c.args.path.now) (ap (λ es. kept_at c.args.path.now (noted seen_view es)) c.reserve.ensures.entries ∙ c.requires))
