-- A walk through a tree, step by step.
use Rattle.el_script.proofs.Vocabulary.{Args, nothing, word, group, ◌+++◌, words, Tree, Places, unplaced, one_place, block_place, directives_place, Directives as DirectivesOf, written, written_places, written_directives, Place, Block, Values, Names, items_of, tree_of, last_tree, places_of, directives_of, letters_of, member_of, nodes_fall, tree_falls, places-again, places-fall}
use Rattle.std.proofs.Common.{◌≡◌, ℕ, ◌+◌, Bool, List, [], ◌∷◌, ◌++◌, length, take, Some, refl, sym, ap, subst, ◌∙◌, append_assoc, append-nil, arith}
use Rattle.std.specs.Prelude.{slice_get}
use Rattle.el_tree.specs.declared.tree.Node.{Node}
use Rattle.el_tree.specs.declared.tree.Last.{Last}
use Rattle.el_tree.specs.declared.tree.Place.TheVariants.{Text, Directives}
use Rattle.el_tree.specs.declared.items.Arg.TheVariants.{Word as ItemWord}
use Rattle.el_lint.specs.declared.finding.Finding.{Finding}
use Rattle.el_lint.specs.declared.walk.Script.{Script}
use Rattle.el_lint.specs.declared.walk.Walk.{Walk}
use Rattle.el_lint.specs.Known.{Known, names_put, known_behind}
use Rattle.el_lint.specs.KnownTold.{known_told}
use Rattle.el_lint.specs.Lints.{place_texts, first_lints, begun_lints, program_lints}
use Rattle.el_lint.specs.Wholes.{Whole}
use Rattle.el_lint.specs.Negated.{negated_lints}
use Rattle.el_lint.specs.declared.context.Context.{Context}
use Rattle.el_lint.specs.Contexts.{context_inside, context_later, context_behind}
use Rattle.el_lint.specs.Findings.{tokens_in, tree_findings, places_findings, directives_findings}
use Rattle.el_lint.specs.Walks.{whole_told, found_here, found_in_tree, found_in_places, found_in_directives, Passes, HasMore, PassesChain}

-- ---- counting

tokens-words : (texts : List (List ℕ)) → tokens_in (words texts) ≡ length texts
tokens-words [] = refl
tokens-words (text ∷ texts) = omega (arith, tokens-words texts)

tokens-then : (place : Place) (places : List Place) → tokens_in (written_places (places_of (place ∷ places))) ≡ tokens_in (written_places (places_of (place ∷ []))) + tokens_in (written_places (places_of places))
tokens-then (Text text) places = omega arith
tokens-then (Block block) places = omega arith
tokens-then (Values values) places = omega arith
tokens-then (Names names) places = omega arith
tokens-then (Directives directives) places = omega arith

tokens-plus : (one other : Args) → tokens_in (one +++ other) ≡ tokens_in one + tokens_in other
tokens-plus nothing other = omega arith
tokens-plus (word text one) other = omega (arith, tokens-plus one other)
tokens-plus (group inside one) other = omega (arith, tokens-plus one other)

tokens-head : (options : List (List ℕ)) (places rest : Args) → tokens_in (words options +++ (places +++ rest)) + 1 ≡ length options + 1 + tokens_in places + tokens_in rest
tokens-head options places rest = omega (arith, tokens-plus (words options) (places +++ rest), tokens-plus places rest, tokens-words options)

-- two steps, and what is left behind them
three-on : (old one two first second rest : List Finding) → one ≡ old ++ first → two ≡ one ++ second → two ++ rest ≡ old ++ ((first ++ second) ++ rest)
three-on old one two first second rest begun gone =
    ap (λ (found : List Finding). found ++ rest) (gone ∙ ap (λ (found : List Finding). found ++ second) begun ∙ append_assoc old first second) ∙ append_assoc old (first ++ second) rest

take-append : (old more : List (List ℕ)) → take (length old) (old ++ more) ≡ old
take-append [] more = refl
take-append (text ∷ old) more = ap (λ (texts : List (List ℕ)). text ∷ texts) (take-append old more)

-- ---- where it is known what is found behind a place

module _ (whole : Whole) (known : Known) where
  found_at : (at : ℕ) → (context : Context) → List Place → List Finding
  found_at at context places = places_findings whole at context known (places_of places)

  -- the first place, and the others
  places-then : (at : ℕ) (context : Context) (place : Place) (places : List Place)
      → found_at at context (place ∷ places) ≡ found_at at context (place ∷ []) ++ found_at (at + tokens_in (written_places (places_of (place ∷ [])))) (context_later context) places
  unfolding found_at
  places-then at context (Text text) places = refl
  places-then at context (Block block) places =
      let there : at + 1 + tokens_in (written block) + 1 ≡ at + (tokens_in (written block) + 0 + 2) = omega arith in
      let inside = tree_findings whole (at + 1) context known block in
      ap (λ (behind : ℕ). inside ++ found_at behind (context_later context) places) there ∙ ap (λ (found : List Finding). found ++ found_at (at + (tokens_in (written block) + 0 + 2)) (context_later context) places) (sym (append-nil inside))
  places-then at context (Values values) places =
      let there : at + (tokens_in values + 2) ≡ at + (tokens_in values + 0 + 2) = omega arith in
      ap (λ (behind : ℕ). found_at behind (context_later context) places) there
  places-then at context (Names names) places =
      let there : at + (length names + 2) ≡ at + (tokens_in (words names) + 0 + 2) = omega (arith, tokens-words names) in
      ap (λ (behind : ℕ). found_at behind (context_later context) places) there
  places-then at context (Directives directives) places =
      let there : at + 1 + tokens_in (written_directives (directives_of directives)) + 1 ≡ at + (tokens_in (written_directives (directives_of directives)) + 0 + 2) = omega arith in
      let inside = directives_findings whole (at + 1) context known (directives_of directives) in
      ap (λ (behind : ℕ). inside ++ found_at behind (context_later context) places) there ∙ ap (λ (found : List Finding). found ++ found_at (at + (tokens_in (written_directives (directives_of directives)) + 0 + 2)) (context_later context) places) (sym (append-nil inside))

-- ---- what a command begins with

pub begun-word : (known : Known) (is_test : Bool) (args : Args) (text : List ℕ) → slice_get (items_of args) 0 ≡ Some (ItemWord text) → first_lints known text ++ negated_lints is_test text ≡ begun_lints known is_test args
begun-word known is_test nothing text is = absurd (cc)
begun-word known is_test (word first rest) text is = let same : text ≡ first = cc in ap (λ (text : List ℕ). first_lints known text ++ negated_lints is_test text) same
begun-word known is_test (group inside rest) text is = absurd (cc)

pub begun-other : (known : Known) (is_test : Bool) (args : Args) → ((text : List ℕ) → slice_get (items_of args) 0 ≡ Some (ItemWord text) → ⊥) → [] ≡ begun_lints known is_test args
begun-other known is_test nothing none = refl
begun-other known is_test (word first rest) none = absurd (none first refl)
begun-other known is_test (group inside rest) none = refl

pub ruleset begun = (begun-word, begun-other, append-nil)

-- ---- steps

module _ (script : Script) where
  -- the same findings, counted and known from there
  tree-from : (at : ℕ) (old new : Walk) (context : Context) (tree : Tree) → new.at ≡ at → known_told new.known ≡ known_told old.known
      → found_in_tree script new context tree ≡ tree_findings (whole_told script) at context (known_told old.known) tree
  tree-from at old new context tree there known =
      ap (λ (at : ℕ). tree_findings (whole_told script) at context (known_told new.known) tree) there
      ∙ ap (λ (known : Known). tree_findings (whole_told script) at context known tree) known

  places-from : (at : ℕ) (old new : Walk) (context : Context) (places : Places) → new.at ≡ at → known_told new.known ≡ known_told old.known
      → found_in_places script new context places ≡ places_findings (whole_told script) at context (known_told old.known) places
  places-from at old new context places there known =
      ap (λ (at : ℕ). places_findings (whole_told script) at context (known_told new.known) places) there
      ∙ ap (λ (known : Known). places_findings (whole_told script) at context known places) known

  directives-from : (at : ℕ) (old new : Walk) (context : Context) (directives : DirectivesOf) → new.at ≡ at → known_told new.known ≡ known_told old.known
      → found_in_directives script new context directives ≡ directives_findings (whole_told script) at context (known_told old.known) directives
  directives-from at old new context directives there known =
      ap (λ (at : ℕ). directives_findings (whole_told script) at context (known_told new.known) directives) there
      ∙ ap (λ (known : Known). directives_findings (whole_told script) at context known directives) known

  -- a block, between its braces
  pub block-passed : (old one two new : Walk) (context : Context) (block : Tree) → Passes old one [] 1 → Passes one two (found_in_tree script one context block) (tokens_in (written block)) → Passes two new [] 1
      → Passes old new (found_in_places script old context (one_place (block_place block) unplaced)) (tokens_in (written block) + 0 + 2)
  block-passed old one two new context block opens passes closes =
      record {
        findings =
            closes.findings ∙ append-nil two.findings.items ∙ passes.findings ∙ ap (λ (found : List Finding). found ++ found_in_tree script one context block) (opens.findings ∙ append-nil old.findings.items)
            ∙ ap (λ (found : List Finding). old.findings.items ++ found) (tree-from (old.at + 1) old one context block opens.at opens.known ∙ sym (append-nil _));
        at = omega (arith, opens.at, passes.at, closes.at);
        known = closes.known ∙ passes.known ∙ opens.known;
      }

  pub directives-passed : (old one two new : Walk) (context : Context) (directives : DirectivesOf) → Passes old one [] 1 → Passes one two (found_in_directives script one context directives) (tokens_in (written_directives directives)) → Passes two new [] 1
      → Passes old new (found_in_places script old context (one_place (directives_place directives) unplaced)) (tokens_in (written_directives directives) + 0 + 2)
  directives-passed old one two new context directives opens passes closes =
      record {
        findings =
            closes.findings ∙ append-nil two.findings.items ∙ passes.findings ∙ ap (λ (found : List Finding). found ++ found_in_directives script one context directives) (opens.findings ∙ append-nil old.findings.items)
            ∙ ap (λ (found : List Finding). old.findings.items ++ found) (directives-from (old.at + 1) old one context directives opens.at opens.known ∙ sym (append-nil _));
        at = omega (arith, opens.at, passes.at, closes.at);
        known = closes.known ∙ passes.known ∙ opens.known;
      }

-- so many tokens are as many
passed-same : (old new : Walk) (found : List Finding) (some others : ℕ) → some ≡ others → Passes old new found some → Passes old new found others
passed-same old new found some others same passes = record { findings = passes.findings; at = omega (arith, passes.at); known = passes.known }

-- a block of names
pub names-passed : (script : Script) (old new : Walk) (context : Context) (place : Place) (names : List (List ℕ)) (count : ℕ) → place ≡ Names names → count ≡ length names → Passes old new [] (count + 2)
    → Passes old new (found_in_places script old context (places_of (place ∷ []))) (tokens_in (written_places (places_of (place ∷ []))))
names-passed script old new context place names count is counted passes =
    subst (λ (place : Place). Passes old new (found_in_places script old context (places_of (place ∷ []))) (tokens_in (written_places (places_of (place ∷ []))))) (sym is)
    (passed-same old new [] (count + 2) (tokens_in (words names) + 0 + 2) (omega (arith, counted, tokens-words names)) passes)

-- ---- what a chain is to its process

abbrev pub inside_node : Context → Node → Context
inside_node context node = context_inside context node.prog (letters_of node.prog node.options)

abbrev pub behind_node : Context → Node → Context
behind_node context node = context_behind context node.prog (letters_of node.prog node.options) (place_texts node.places)

-- ---- loops

-- what was found and what is left to be found is all
pub record StillPasses (old now : Walk) (found left : List Finding) (tokens behind : ℕ) : Type 0 where
  pub findings : now.findings.items ++ left ≡ old.findings.items ++ found
  pub at : now.at + behind ≡ old.at + tokens
  pub known : known_told now.known ≡ known_told old.known

pub still-begins : (old : Walk) (found : List Finding) (tokens : ℕ) → StillPasses old old found found tokens tokens
still-begins old found tokens = record { findings = refl; at = refl; known = refl }

still-ends : (old now : Walk) (found : List Finding) (tokens : ℕ) → StillPasses old now found [] tokens 0 → Passes old now found tokens
still-ends old now found tokens still = record { findings = sym (append-nil now.findings.items) ∙ still.findings; at = omega (arith, still.at); known = still.known }

module _ (script : Script) (old now : Walk) (found : List Finding) (tokens : ℕ) where
  pub places-end : (context : Context) (left : List Place) → length left ≡ 0 → StillPasses old now found (found_in_places script now context (places_of left)) tokens (tokens_in (written_places (places_of left))) → Passes old now found tokens
  places-end context [] none still = still-ends old now found tokens still
  places-end context (place ∷ left) none still = absurd (omega (arith, none))

  pub directives-end : (context : Context) (left : List Node) → length left ≡ 0 → StillPasses old now found (found_in_directives script now context (directives_of left)) tokens (tokens_in (written_directives (directives_of left))) → Passes old now found tokens
  directives-end context [] none still = still-ends old now found tokens still
  directives-end context (directive ∷ left) none still = absurd (omega (arith, none))

module _ (script : Script) (old now new : Walk) (found : List Finding) (tokens : ℕ) where
  pub place-on : (context later : Context) (place : Place) (places : List Place) → later ≡ context_later context → StillPasses old now found (found_in_places script now context (places_of (place ∷ places))) tokens (tokens_in (written_places (places_of (place ∷ places))))
      → Passes now new (found_in_places script now context (places_of (place ∷ []))) (tokens_in (written_places (places_of (place ∷ []))))
      → StillPasses old new found (found_in_places script new later (places_of places)) tokens (tokens_in (written_places (places_of places)))
  unfolding found_at
  place-on context later place places is still passes =
      let first = tokens_in (written_places (places_of (place ∷ []))) in
      record {
        findings =
            ap (λ (context : Context). new.findings.items ++ found_in_places script new context (places_of places)) is
            ∙ ap (λ (before : List Finding). before ++ found_in_places script new (context_later context) (places_of places)) passes.findings
            ∙ append_assoc now.findings.items (found_in_places script now context (places_of (place ∷ []))) (found_in_places script new (context_later context) (places_of places))
            ∙ ap (λ (left : List Finding). now.findings.items ++ (found_in_places script now context (places_of (place ∷ [])) ++ left)) (places-from script (now.at + first) now new (context_later context) (places_of places) passes.at passes.known)
            ∙ ap (λ (left : List Finding). now.findings.items ++ left) (sym (places-then (whole_told script) (known_told now.known) now.at context place places))
            ∙ still.findings;
        at = omega (arith, still.at, passes.at, tokens-then place places);
        known = passes.known ∙ still.known;
      }

  pub directive-on : (mid : Walk) (context inside : Context) (directive : Node) (directives : List Node) → inside ≡ inside_node context directive
      → StillPasses old now found (found_in_directives script now context (directives_of (directive ∷ directives))) tokens (tokens_in (written_directives (directives_of (directive ∷ directives))))
      → Passes now mid (found_here script now (program_lints (whole_told script) (known_told now.known) context.made directive.prog directive.options directive.places)) (length directive.options + 1)
      → Passes mid new (found_in_places script mid inside directive.places) (tokens_in (written_places directive.places))
      → StillPasses old new found (found_in_directives script new context (directives_of directives)) tokens (tokens_in (written_directives (directives_of directives)))
  directive-on mid context inside directive directives is still heads passes =
      let head = found_here script now (program_lints (whole_told script) (known_told now.known) context.made directive.prog directive.options directive.places) in
      let behind : new.at ≡ now.at + (length directive.options + 1) + tokens_in (written_places directive.places) = omega (arith, heads.at, passes.at) in
      record {
        findings =
            three-on now.findings.items mid.findings.items new.findings.items head (found_in_places script mid (inside_node context directive) directive.places) (found_in_directives script new context (directives_of directives)) heads.findings
            (passes.findings ∙ ap (λ (inside : Context). mid.findings.items ++ found_in_places script mid inside directive.places) is)
            ∙ ap (λ (inside : List Finding). now.findings.items ++ ((head ++ inside) ++ found_in_directives script new context (directives_of directives))) (places-from script (now.at + (length directive.options + 1)) now mid (inside_node context directive) directive.places heads.at heads.known)
            ∙ ap
            (λ (rest : List Finding).
            now.findings.items
            ++ ((head ++ places_findings (whole_told script) (now.at + (length directive.options + 1)) (inside_node context directive) (known_told now.known) directive.places) ++ rest))
            (directives-from script (now.at + (length directive.options + 1) + tokens_in (written_places directive.places)) now new context (directives_of directives) behind (passes.known ∙ heads.known))
            ∙ still.findings;
        at = omega (arith, still.at, behind, tokens-head directive.options (written_places directive.places) (written_directives (directives_of directives)));
        known = passes.known ∙ heads.known ∙ still.known;
      }

-- ---- chains

-- what was found and what is left to be found is all, and further names may be known
pub record StillPassesChain (old now : Walk) (found left : List Finding) (tokens behind : ℕ) : Type 0 where
  pub findings : now.findings.items ++ left ≡ old.findings.items ++ found
  pub at : now.at + behind ≡ old.at + tokens
  pub names : HasMore old.known.names.items now.known.names.items

pub chain-begins : (old : Walk) (found : List Finding) (tokens : ℕ) → StillPassesChain old old found found tokens tokens
chain-begins old found tokens = record { findings = refl; at = refl; names = record { more = []; is = sym (append-nil old.known.names.items) } }

more-names : (old now new names : List (List ℕ)) → HasMore old now → new ≡ now ++ names → HasMore old new
more-names old now new names has is =
    record { more = has.more ++ names; is = is ∙ ap (λ (before : List (List ℕ)). before ++ names) has.is ∙ append_assoc old has.more names }

module _ (script : Script) (old now : Walk) (found : List Finding) (tokens : ℕ) where
  pub node-on : (mid behind new : Walk) (context inside further : Context) (node : Node) (nodes : List Node) (last : Last) → inside ≡ inside_node context node → further ≡ behind_node context node
      → StillPassesChain old now found (found_in_tree script now context (tree_of (node ∷ nodes) last)) tokens (tokens_in (written (tree_of (node ∷ nodes) last)))
      → Passes now mid (found_here script now (program_lints (whole_told script) (known_told now.known) context.made node.prog node.options node.places)) (length node.options + 1)
      → Passes mid behind (found_in_places script mid inside node.places) (tokens_in (written_places node.places))
      → new.findings.items ≡ behind.findings.items → new.at ≡ behind.at → known_told new.known ≡ known_behind (known_told behind.known) node.prog node.options node.places
      → StillPassesChain old new found (found_in_tree script new further (tree_of nodes last)) tokens (tokens_in (written (tree_of nodes last)))
  node-on mid behind new context inside further node nodes last is_inside is_further still heads passes same there learnt =
      let head = found_here script now (program_lints (whole_told script) (known_told now.known) context.made node.prog node.options node.places) in
      let within = places_findings (whole_told script) (now.at + (length node.options + 1)) (inside_node context node) (known_told now.known) node.places in
      let at : new.at ≡ now.at + (length node.options + 1) + tokens_in (written_places node.places) = omega (arith, heads.at, passes.at, there) in
      let known : known_told new.known ≡ known_behind (known_told now.known) node.prog node.options node.places =
      learnt ∙ ap (λ (known : Known). known_behind known node.prog node.options node.places) (passes.known ∙ heads.known) in
      let rest = found_in_tree script new (behind_node context node) (tree_of nodes last) in
      record {
        findings =
            ap (λ (context : Context). new.findings.items ++ found_in_tree script new context (tree_of nodes last)) is_further
            ∙ ap (λ (before : List Finding). before ++ rest) same
            ∙ three-on now.findings.items mid.findings.items behind.findings.items head (found_in_places script mid (inside_node context node) node.places) rest heads.findings
            (passes.findings ∙ ap (λ (inside : Context). mid.findings.items ++ found_in_places script mid inside node.places) is_inside)
            ∙ ap (λ (inside : List Finding). now.findings.items ++ ((head ++ inside) ++ rest)) (places-from script (now.at + (length node.options + 1)) now mid (inside_node context node) node.places heads.at heads.known)
            ∙ ap (λ (at : ℕ). now.findings.items ++ ((head ++ within) ++ tree_findings (whole_told script) at (behind_node context node) (known_told new.known) (tree_of nodes last))) at
            ∙ ap
            (λ (known : Known).
            now.findings.items
            ++ ((head ++ within) ++ tree_findings (whole_told script) (now.at + (length node.options + 1) + tokens_in (written_places node.places)) (behind_node context node) known (tree_of nodes last)))
            known
            ∙ still.findings;
        at = omega (arith, still.at, at, tokens-head node.options (written_places node.places) (written (tree_of nodes last)));
        names = more-names old.known.names.items now.known.names.items new.known.names.items (names-behind node) still.names (ap (λ (known : Known). known.names) known);
      }
    where
      names-behind : Node → List (List ℕ)
      names-behind node = names_put (member_of node.prog (letters_of node.prog node.options) node.places)

  pub chain-ends : (new : Walk) (context : Context) (left : List Node) (last : Last) → length left ≡ 0 → StillPassesChain old now found (found_in_tree script now context (tree_of left last)) tokens (tokens_in (written (tree_of left last)))
      → Passes now new (found_in_tree script now context (last_tree last)) (tokens_in (written (last_tree last))) → PassesChain old new found tokens
  chain-ends new context [] last none still passes =
      record {
        findings = passes.findings ∙ still.findings;
        at = omega (arith, still.at, passes.at);
        names = record { more = still.names.more; is = ap (λ (known : Known). known.names) passes.known ∙ still.names.is };
      }
  chain-ends new context (node ∷ left) last none still passes = absurd (omega (arith, none))

-- the names that are known are those before
pub back-known : (old new : List (List ℕ)) → HasMore old new → take (length old) new ≡ old
back-known old new has = ap (take (length old)) has.is ∙ take-append old has.more

module _ (script : Script) where
  -- behind a tree the names are known that were before it
  pub tree-passed : (old behind new : Walk) (context : Context) (inside tree : Tree) (count : ℕ) → inside ≡ tree → count ≡ length old.known.names.items
      → PassesChain old behind (found_in_tree script old context inside) (tokens_in (written inside)) → new.findings.items ≡ behind.findings.items → new.at ≡ behind.at
      → new.known.names.items ≡ take count behind.known.names.items → new.known.positional ≡ old.known.positional → Passes old new (found_in_tree script old context tree) (tokens_in (written tree))
  tree-passed old behind new context inside tree count is counted passes found there names positional =
      let again = names ∙ ap (λ (count : ℕ). take count behind.known.names.items) counted ∙ back-known old.known.names.items behind.known.names.items passes.names in
      record {
        findings = found ∙ passes.findings ∙ ap (λ (tree : Tree). old.findings.items ++ found_in_tree script old context tree) is;
        at = there ∙ passes.at ∙ ap (λ (tree : Tree). old.at + tokens_in (written tree)) is;
        known = λ i. record { names = again i; positional = positional i };
      }

pub ruleset walking = (append_assoc, append-nil, nodes_fall, tree_falls, places-again, places-fall, still-begins, chain-begins)
