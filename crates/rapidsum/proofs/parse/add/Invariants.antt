use Rattle.std.proofs.Common.{◌≡◌, ◌++◌, map, take, vec_items}
use Rattle.rapidsum.proofs.parse.add.Given as goal

-- the words so far are added
abbrev pub invariant-loop-word : goal.invariant-loop-word
invariant-loop-word g l =
    map (λ file. file.now) l.files.items ≡ map (λ file. file.now) l.initial.files.items ++ map vec_items (take l.word-index l.words)
