use Rattle.std.proofs.Common.{ap, ◌∙◌}
use Rattle.el_test.specs.ScriptedAsker.{AskScript, due, or_no}
use Rattle.el_test.proofs.Scripted.{due-drop}
use Rattle.el_test.proofs.scripted_asker.ScriptedAsker.due.Goals as goal

pub returns : goal.returns
returns c = ap or_no c.get.ensures ∙ due-drop c.self.inside.answers c.self.inside.taken ∙ ap (λ (s : AskScript). due s.answers) c.self.view_is
