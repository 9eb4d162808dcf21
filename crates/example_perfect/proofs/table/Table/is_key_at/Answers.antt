use Rattle.std.proofs.Common.{rules, ◌<◌, length}
use Rattle.example_perfect.proofs.Keys.{is_key, key_within}
use Rattle.example_perfect.proofs.table.Table.is_key_at.Goals as goal

pub returns-in-Some : goal.returns-in-Some
returns-in-Some c =
    is_key c.args.self.now.keys.now c.args.index c.in-Some.found.now c.args.key.now c.eq.result (search rules) (search rules) c.eq.ensures

pub returns-in-None : goal.returns-in-None
returns-in-None c = (
  (λ no. search rules),
  (λ at. let inside : c.args.index < length c.args.self.now.keys.now = key_within c.args.self.now.keys.now c.args.index c.args.key.now at in
      absurd (search rules)),
)
