use Rattle.std.proofs.Common.{sym, ◌∙◌}
use Rattle.el_layout.proofs.Layouts.{layout-reads, layout-tokens, script-no_nul}
use Rattle.el_layout.proofs.laws.formatting_keeps_tokens.Goals as goal

pub returns : goal.returns
returns c = record {
  no_nul = λ script tree lexes. script-no_nul script lexes.tokens tree lexes.lexes.reads lexes.are_shapes;
  tokens = λ script tree lexes short. layout-reads tree (script-no_nul script lexes.tokens tree lexes.lexes.reads lexes.are_shapes) short;
  words = λ script tree tokens formatted words lexes same again spells.
      let formatted_same = layout-tokens tree formatted (script-no_nul script tokens tree lexes.reads same) again in
      record { args = spells.args; are_tokens = spells.are_tokens ∙ same ∙ sym formatted_same; within = spells.within; are_words = spells.are_words };
}
