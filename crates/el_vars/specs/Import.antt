-- import [-i | -D default] [-u] [-C -n -s -d delimiters] var prog..
use Rattle.el_room.specs.Vocabulary.{Importas, Import, First, DirectiveRead, Read, the_text, own_directive, Effect}
use Rattle.std.specs.Prelude.{[], ◌∷◌}
use Rattle.el_vars.specs.Multisubstitute.{substituting}

-- what was read, as the directive of importas that has the name in both places
abbrev pub as_importas : Read → DirectiveRead
as_importas read = record (own_directive Importas read) { texts = the_text First read ∷ the_text First read ∷ [] }

-- what importas does with the name in both places, under its own name in messages
unfoldable pub import : Effect
import read state = substituting Import (as_importas read ∷ []) state
