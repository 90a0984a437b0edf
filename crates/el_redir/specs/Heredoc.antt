-- heredoc fd text prog..
use Rattle.el_room.specs.Vocabulary.{Heredoc, feed_act, and_then, and_go_on, Second, the_text, Effect}
use Rattle.el_redir.specs.Numbers.{number_read}
use Rattle.el_redir.specs.Putting.{after_given}

-- the number takes a handle from which the text can be read
unfoldable pub heredoc : Effect
heredoc read state = and_then (number_read Heredoc read state) (λ number. and_go_on (feed_act (the_text Second read)) (after_given Heredoc number state))
