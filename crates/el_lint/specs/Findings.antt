-- What is found in a script, and on which line.
use Rattle.el_script.specs.Vocabulary.{Args, nothing, word, group, Token, Lexes, Tree, End, Command, Node, Places, unplaced, one_place, text_place, block_place, values_place, names_place, directives_place, Directives, undirected, directed, written, written_places, written_directives, letters_of, token_line}
use Rattle.std.specs.Prelude.{◌≡◌, ℕ, ◌+◌, List, [], ◌∷◌, ◌++◌, length, Option, None, Some, slice_get, if◌then◌else◌}
use Rattle.el_check.specs.declared.params.Params.{Params}
use Rattle.el_check.specs.Scripts.{IsAcceptedScript}
use Rattle.el_lint.specs.declared.lint.Lint.{Lint}
use Rattle.el_lint.specs.declared.finding.Finding.{Finding}
use Rattle.el_lint.specs.declared.allowance.Allowance.{Allowance}
use Rattle.el_lint.specs.Wholes.{Whole, whole_of}
use Rattle.el_lint.specs.Known.{Known, first_known, known_behind}
use Rattle.el_lint.specs.declared.context.Context.{Context}
use Rattle.el_lint.specs.Contexts.{first_context, context_inside, context_later, context_behind}
use Rattle.el_lint.specs.Lints.{place_texts, command_lints, program_lints}
use Rattle.el_lint.specs.Allowances.{is_allowed}
use Rattle.el_lint.specs.Sentences.{lint_name}

-- ---- places

-- how many tokens words and groups are: a group has its two braces
abbrev pub tokens_in : Args → ℕ
tokens_in nothing = 0
tokens_in (word text rest) = tokens_in rest + 1
tokens_in (group inside rest) = tokens_in inside + tokens_in rest + 2

-- the line of a token; 0 where there is none
abbrev pub line_of : Option Token → ℕ
line_of None = 0
line_of (Some token) = token_line token

-- the line of the token with this number
abbrev pub line_at : List Token → (at : ℕ) → ℕ
line_at tokens at = line_of (slice_get tokens at)

module _ (allowances : List Allowance) where
  -- a lint is a finding, unless a comment on the line before allows it
  abbrev pub found_on : (line : ℕ) → Lint → List Finding
  found_on line lint = if is_allowed allowances line (lint_name lint) then [] else record { line = line; lint = lint } ∷ []

  -- so is each of several
  abbrev pub all_found_on : (line : ℕ) → List Lint → List Finding
  all_found_on line [] = []
  all_found_on line (lint ∷ lints) = found_on line lint ++ all_found_on line lints

-- ---- trees

-- Of each program, each directive and each command, on the line on which it begins. It begins with the token of this number, and the
-- tokens of a tree are counted as they are written; these names are known there, and the chain is this to its process.
module _ (whole : Whole) where
  -- lints of what begins there
  abbrev pub found_from : (at : ℕ) → List Lint → List Finding
  found_from at lints = all_found_on whole.allowances (line_at whole.tokens at) lints

  abbrev mutual
    -- in a tree: a program's places and its rest come behind its name and its option words; its names are known in the rest
    pub tree_findings : (at : ℕ) → Context → Known → Tree → List Finding
    tree_findings at context known End = []
    tree_findings at context known (Command args) = found_from at (command_lints known context.is_test args)
    tree_findings at context known (Node program options places rest) =
        found_from at (program_lints whole known context.made program options places)
        ++ places_findings (at + (length options + 1)) (context_inside context program (letters_of program options)) known places
        ++ tree_findings (at + (length options + 1) + tokens_in (written_places places)) (context_behind context program (letters_of program options) (place_texts places)) (known_behind known program options places) rest

    -- in the program blocks and the directives at places
    pub places_findings : (at : ℕ) → Context → Known → Places → List Finding
    places_findings at context known unplaced = []
    places_findings at context known (one_place (text_place text) places) = places_findings (at + 1) (context_later context) known places
    places_findings at context known (one_place (block_place block) places) =
        tree_findings (at + 1) context known block ++ places_findings (at + 1 + tokens_in (written block) + 1) (context_later context) known places
    places_findings at context known (one_place (values_place values) places) = places_findings (at + (tokens_in values + 2)) (context_later context) known places
    places_findings at context known (one_place (names_place names) places) = places_findings (at + (length names + 2)) (context_later context) known places
    places_findings at context known (one_place (directives_place directives) places) =
        directives_findings (at + 1) context known directives ++ places_findings (at + 1 + tokens_in (written_directives directives) + 1) (context_later context) known places

    -- in directives, in which the names before their program are known
    pub directives_findings : (at : ℕ) → Context → Known → Directives → List Finding
    directives_findings at context known undirected = []
    directives_findings at context known (directed program options places directives) =
        found_from at (program_lints whole known context.made program options places)
        ++ places_findings (at + (length options + 1)) (context_inside context program (letters_of program options)) known places
        ++ directives_findings (at + (length options + 1) + tokens_in (written_places places)) context known directives

-- ---- scripts

-- in a script with these tokens and this tree
abbrev pub script_findings : Params → (script : List ℕ) → List Token → Tree → List Finding
script_findings params script tokens tree = tree_findings (whole_of script tokens) 0 first_context (first_known params) tree

-- the script is accepted, and these are the findings in it
pub record AreFindings (params : Params) (script : List ℕ) (findings : List Finding) : Type 0 where
  pub tokens : List Token
  pub tree : Tree
  pub lexes : Lexes script tokens
  pub accepted : IsAcceptedScript params script tree
  pub are : findings ≡ script_findings params script tokens tree
