use Rattle.std.proofs.Common.{◌≡◌, ◌==◌, length, lit<, arith}
use Rattle.std.specs.List.{position_or_len}
use Rattle.std.proofs.lemmas.List.Sums.{fails_before_first}
use Rattle.std.proofs.lemmas.List.Splits.{slice_split_none, slice_split_first}
use Rattle.std.proofs.lemmas.Str.Pattern.{split_once_first}
use Rattle.vk_triplet.proofs.triplets.cut_line.Goals as goal

pub returns-in-Some-clause-whole : goal.returns-in-Some-clause-whole
returns-in-Some-clause-whole c =
    let first = split_once_first 10 c.args.text.now c.split_once.result c.split_once.ensures.cases (lit< tt) in
    let parts = rw c.in-Some.is at first in
    rw (parts.1, parts.2) (slice_split_first (λ b. b == 10) c.args.text.now 0 parts.0)

pub returns-in-None-clause-whole : goal.returns-in-None-clause-whole
returns-in-None-clause-whole c =
    let first = split_once_first 10 c.args.text.now c.split_once.result c.split_once.ensures.cases (lit< tt) in
    let all : position_or_len (λ b. b == 10) c.args.text.now ≡ length c.args.text.now = rw c.in-None.is at first in
    slice_split_none (λ b. b == 10) c.args.text.now (λ k d within. fails_before_first (λ b. b == 10) c.args.text.now k d (omega (arith, all, within)))
