use Rattle.el_app.proofs.Comments.{tokens, kept-comments, spread-comments, first, few, second}
use Rattle.el_app.proofs.laws.comments_are_kept.Goals as goal

pub returns-clause-tokens : goal.returns-clause-tokens
returns-clause-tokens c = tokens

pub returns-clause-comments : goal.returns-clause-comments
returns-clause-comments c = kept-comments

pub returns-clause-upgraded : goal.returns-clause-upgraded
returns-clause-upgraded c = spread-comments

pub returns-clause-first : goal.returns-clause-first
returns-clause-first c = first

pub returns-clause-lines : goal.returns-clause-lines
returns-clause-lines c = few

pub returns-clause-again : goal.returns-clause-again
returns-clause-again c = second
