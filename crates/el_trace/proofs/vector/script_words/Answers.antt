use Rattle.el_trace.proofs.Verdicts.{ok_map, ok_anyway}
use Rattle.el_trace.proofs.Words.{put_so, meets_so, as_spelled, meets_none}
use Rattle.el_trace.proofs.vector.script_words.Goals as goal

pub returns-in-Subst-clause-words : goal.returns-in-Subst-clause-words
returns-in-Subst-clause-words c =
    ok_map c.put_in.result
    (λ made same tree accepted. put_so c.args.params c.args.script.now c.args.start.now.zero c.args.start.now.args c.in-Subst.least c.in-Subst.is c.in_ok-words.words made (λ tree accepted. c.in_ok-words.ensures c.args.params tree accepted) same tree accepted)
    c.put_in.ensures.words

pub returns-in-Subst-clause-meets : goal.returns-in-Subst-clause-meets
returns-in-Subst-clause-meets c =
    ok_anyway c.put_in.result (meets_so c.args.params c.args.script.now c.args.start.now.zero c.args.start.now.args c.in-Subst.least c.in-Subst.is c.put_in.ensures.small c.put_in.ensures.few)

pub returns-in-Frame : goal.returns-in-Frame
returns-in-Frame c = record {
  words = as_spelled c.args.params c.args.script.now c.args.start.now.zero c.args.start.now.args c.in-Frame.is c.in_ok-words.words (λ tree accepted. c.in_ok-words.ensures c.args.params tree accepted);
  meets = meets_none c.args.params c.args.script.now c.args.start.now.zero c.args.start.now.args c.in-Frame.is;
}
