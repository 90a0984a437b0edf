use Rattle.std.proofs.Common.{arith, ◌∙◌, ap, ◌++◌, [], ◌∷◌}
use Rattle.el_words.proofs.Slices.{pushed}
use Rattle.el_words.proofs.words.room.Room.push.Goals as goal

pub invariant_of-self : goal.invariant_of-self
invariant_of-self c = (
  (pushed _ _ _ c.self.invariant.0 _ _ _ _ c.requires.no_nul c.append.ensures.items c.push_reserved.ensures.items (c.len.ensures ∙ c.append.new.bytes.ok.0)).0,
  omega (arith, c.self.invariant.1),
  omega (arith, c.self.invariant.2),
)

pub returns-clause-words : goal.returns-clause-words
returns-clause-words c =
    (pushed _ _ _ c.self.invariant.0 _ _ _ _ c.requires.no_nul c.append.ensures.items c.push_reserved.ensures.items (c.len.ensures ∙ c.append.new.bytes.ok.0)).1
    ∙ ap (λ room. room.words ++ c.args.word.now ∷ []) c.self.view_is
