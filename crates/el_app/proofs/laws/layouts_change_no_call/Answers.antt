use Rattle.el_app.proofs.Layouts.{accepted-stays, words-stay, runs-what-it-reads, changes-no-call}
use Rattle.el_app.proofs.laws.layouts_change_no_call.Goals as goal

pub returns-clause-accepted : goal.returns-clause-accepted
returns-clause-accepted c = accepted-stays

pub returns-clause-words : goal.returns-clause-words
returns-clause-words c = words-stay

pub returns-clause-reads : goal.returns-clause-reads
returns-clause-reads c = runs-what-it-reads

pub returns-clause-calls : goal.returns-clause-calls
returns-clause-calls c = changes-no-call
