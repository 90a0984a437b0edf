-- The top call on words that begin with a program runs them, so on a tree's words it makes what the tree means.
use Rattle.el_room.proofs.Vocabulary.{bytes_eq, Prog, Define, Importas, Import, Multidefine, Multisubstitute, Elgetpositionals, Export, Unexport, Emptyenv, Envfile, Withstdinas, Shift, Foreground, Background, If, Ifelse, Ifte, Ifthenelse, Cd, Exec, Exit, Loopwhilex, Forx, Forstdin, Forbacktickx, Pipeline, Backtick, Redirfd, Fdmove, Fdclose, Fdswap, Piperw, Heredoc, name_text, program_named, made, ends_as, State, made_as, made-ends_as}
use Rattle.std.proofs.Common.{◌≡◌, ℕ, Bool, true, false, if◌then◌else◌, List, [], ◌∷◌, Option, Some, None, IfSome, refl, sym, ap, ◌∙◌, subst}
use Rattle.el_words.specs.declared.prog.Prog.TheVariants.{Wait}
use Rattle.el_words.proofs.Programs.{named}
use Rattle.el_machine.specs.Flat.{first_program, flat_run}
use Rattle.el_check.specs.Operands.{tree_words}
use Rattle.el_meaning.specs.Meaning.{whole_meaning}
use Rattle.el_meaning.proofs.Whole.{run-is-meaning}
use Rattle.el_app.specs.declared.names.Tool.{Tool}
use Rattle.el_app.specs.Names.{execlineb_name, execline_name, elcheck_name, elfmt_name, tool_named, base_name}
use Rattle.el_app.specs.Execline.{tool_or, after_execline, program_or_unknown, named_run, execline_run, unless_tool, if_program, vector_behind, vector_words}
use Rattle.el_app.specs.Calls.{ending_of}
use Rattle.el_app.specs.First.{first_state}
use Rattle.el_app.specs.Vectors.{VectorsMeanTheirTrees}

-- a word that is its own base name, and neither the top call's name nor a tool's
record IsPlain (word : List ℕ) : Type 0 where
  pub base : base_name word ≡ word
  pub other : bytes_eq word execline_name ≡ false
  pub no_tool : tool_named word ≡ None

-- so is each program's name
name-plain : (program : Prog) → IsPlain (name_text program)
unfolding name_text base_name execline_name execlineb_name elcheck_name elfmt_name
name-plain Define = record { base = refl; other = refl; no_tool = refl }
name-plain Importas = record { base = refl; other = refl; no_tool = refl }
name-plain Import = record { base = refl; other = refl; no_tool = refl }
name-plain Multidefine = record { base = refl; other = refl; no_tool = refl }
name-plain Multisubstitute = record { base = refl; other = refl; no_tool = refl }
name-plain Elgetpositionals = record { base = refl; other = refl; no_tool = refl }
name-plain Export = record { base = refl; other = refl; no_tool = refl }
name-plain Unexport = record { base = refl; other = refl; no_tool = refl }
name-plain Emptyenv = record { base = refl; other = refl; no_tool = refl }
name-plain Envfile = record { base = refl; other = refl; no_tool = refl }
name-plain Withstdinas = record { base = refl; other = refl; no_tool = refl }
name-plain Shift = record { base = refl; other = refl; no_tool = refl }
name-plain Foreground = record { base = refl; other = refl; no_tool = refl }
name-plain Background = record { base = refl; other = refl; no_tool = refl }
name-plain If = record { base = refl; other = refl; no_tool = refl }
name-plain Ifelse = record { base = refl; other = refl; no_tool = refl }
name-plain Ifte = record { base = refl; other = refl; no_tool = refl }
name-plain Ifthenelse = record { base = refl; other = refl; no_tool = refl }
name-plain Wait = record { base = refl; other = refl; no_tool = refl }
name-plain Cd = record { base = refl; other = refl; no_tool = refl }
name-plain Exec = record { base = refl; other = refl; no_tool = refl }
name-plain Exit = record { base = refl; other = refl; no_tool = refl }
name-plain Loopwhilex = record { base = refl; other = refl; no_tool = refl }
name-plain Forx = record { base = refl; other = refl; no_tool = refl }
name-plain Forstdin = record { base = refl; other = refl; no_tool = refl }
name-plain Forbacktickx = record { base = refl; other = refl; no_tool = refl }
name-plain Pipeline = record { base = refl; other = refl; no_tool = refl }
name-plain Backtick = record { base = refl; other = refl; no_tool = refl }
name-plain Redirfd = record { base = refl; other = refl; no_tool = refl }
name-plain Fdmove = record { base = refl; other = refl; no_tool = refl }
name-plain Fdclose = record { base = refl; other = refl; no_tool = refl }
name-plain Fdswap = record { base = refl; other = refl; no_tool = refl }
name-plain Piperw = record { base = refl; other = refl; no_tool = refl }
name-plain Heredoc = record { base = refl; other = refl; no_tool = refl }

word-plain : (program : Prog) (word : List ℕ) → program_named word ≡ Some program → IsPlain word
word-plain program word is = by (program_named word) is (named word)
  where
    by : (found : Option Prog) → found ≡ Some program → IfSome found (λ program. name_text program ≡ word) → IsPlain word
    by None is none = absurd (cc)
    by (Some other) is same = subst IsPlain same (name-plain other)

-- the top call on words that begin with a program is their run
pub runs-them : (program : Prog) (words : List (List ℕ)) (state : State) → first_program words ≡ Some program → execline_run words state ≡ flat_run words state
unfolding execline_run named_run
runs-them program [] state is = absurd (cc)
runs-them program (word ∷ words) state is =
    let plain = word-plain program word is in
    rw (plain.base, plain.other, plain.no_tool, is) refl

-- ---- the words of a vector

module _ (vector : List (List ℕ)) (state : State) where
  -- behind `execline`
  vector-behind : (tool : Option Tool) (words : List (List ℕ)) → unless_tool tool words ≡ Some vector → tool_or tool words state (flat_run words state) ≡ flat_run vector state
  vector-behind None words is = let same : words ≡ vector = cc in ap (λ words. flat_run words state) same
  vector-behind (Some tool) words is = absurd (cc)

  after-is : (words : List (List ℕ)) → vector_behind words ≡ Some vector → after_execline words state ≡ flat_run vector state
  unfolding after_execline
  after-is [] is = let same : [] ≡ vector = cc in ap (λ words. flat_run words state) same
  after-is (word ∷ words) is = vector-behind (tool_named word) (word ∷ words) is

  -- behind its own name
  named-is : (name : List ℕ) (words : List (List ℕ)) → if_program (program_named name) (name ∷ words) ≡ Some vector → named_run name words state ≡ flat_run vector state
  unfolding named_run
  named-is name words is = by (program_named name) refl is
    where
      by : (found : Option Prog) → program_named name ≡ found → if_program found (name ∷ words) ≡ Some vector → tool_or (tool_named name) (name ∷ words) state (program_or_unknown (program_named name) name words state) ≡ flat_run vector state
      by None found is = absurd (cc)
      by (Some program) found is =
          let same : name ∷ words ≡ vector = cc in
          let plain = word-plain program name found in
          rw (plain.no_tool, found) (ap (λ words. flat_run words state) same)

  -- the top call runs it
  pub vector-is : (words : List (List ℕ)) → vector_words words ≡ Some vector → execline_run words state ≡ flat_run vector state
  unfolding execline_run
  vector-is [] is = absurd (cc)
  vector-is (word ∷ words) is = by (bytes_eq (base_name word) execline_name) is
    where
      by : (is_execline : Bool) → (if is_execline then vector_behind words else if_program (program_named (base_name word)) (base_name word ∷ words)) ≡ Some vector
          → (if is_execline then after_execline words state else named_run (base_name word) words state) ≡ flat_run vector state
      by true is = after-is words is
      by false is = named-is (base_name word) words is

-- ---- trees

pub vectors-mean-their-trees : VectorsMeanTheirTrees
vectors-mean-their-trees tree members scope program env dir units found accepted meets few is =
    let words = tree_words scope tree in
    let state = first_state env dir in
    ap (λ run. made (ends_as ending_of run) units found) (runs-them program words state is)
    ∙ made-ends_as ending_of (flat_run words state) units found
    ∙ ap (made_as ending_of) (run-is-meaning tree members scope state units found accepted meets few)
    ∙ sym (made-ends_as ending_of (whole_meaning tree scope state) units found)
