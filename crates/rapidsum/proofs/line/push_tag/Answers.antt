use Rattle.std.proofs.Common.{rules}
use Rattle.std.proofs.lemmas.List.{append_assoc}
use Rattle.rapidsum.proofs.line.push_tag.Goals as goal

pub returns : goal.returns
returns g c =
    rw (c.in_ok-push_seed.ensures, c.in_ok-push_version.ensures, c.in_ok-extend_from_slice.ensures.items) (search (rules, append_assoc))
