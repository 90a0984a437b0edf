-- Laws over the definitions.
use Rattle.std.specs.Prelude.{◌≡◌, ◌↔◌, ℕ, List, [], ◌++◌, Ok, Err}
use Rattle.el_words.specs.Args.{Args}
use Rattle.el_lex.specs.declared.token.Token.{Token}
use Rattle.el_blocks.specs.declared.fault.SpellFault.{SpellFault}
use Rattle.el_blocks.specs.declared.fault.SpellFault.TheVariants.{NoMemory}
use Rattle.el_blocks.specs.Tokens.{Spells}
use Rattle.el_blocks.specs.Braces.{IsBraceFault}
use Rattle.el_blocks.specs.Block.{block_words}
use Rattle.el_blocks.specs.Computed.{spelling_of}

-- what is computed as words is a spelling, and the other way round
abbrev pub SpellingIsComputed : Type 0
SpellingIsComputed = (tokens : List Token) (words : List (List ℕ)) → Spells tokens words ↔ (spelling_of tokens ≡ Ok words)

-- what is computed as a fault is a first brace fault, and the other way round; want of memory is never computed
abbrev pub FaultIsComputed : Type 0
FaultIsComputed = (tokens : List Token) (fault : SpellFault) → ((fault ≡ NoMemory → ⊥) × IsBraceFault tokens fault) ↔ (spelling_of tokens ≡ Err fault)

-- two spellings of the same tokens are equal
abbrev pub OneSpelling : Type 0
OneSpelling = (tokens : List Token) (one other : List (List ℕ)) → Spells tokens one → Spells tokens other → one ≡ other

-- two first brace faults of the same tokens are equal; want of memory is none
abbrev pub OneFault : Type 0
OneFault = (tokens : List Token) (one other : SpellFault) → (one ≡ NoMemory → ⊥) → (other ≡ NoMemory → ⊥) → IsBraceFault tokens one → IsBraceFault tokens other → one ≡ other

-- tokens with a spelling have no brace fault
abbrev pub NeverBoth : Type 0
NeverBoth = (tokens : List Token) (words : List (List ℕ)) (fault : SpellFault) → (fault ≡ NoMemory → ⊥) → Spells tokens words → IsBraceFault tokens fault → ⊥

-- where a block's spelling begins with another's at the same depth, nothing is left of it
abbrev pub OneEnd : Type 0
OneEnd = (depth : ℕ) (one other : Args) (more : List (List ℕ)) → block_words depth one ++ more ≡ block_words depth other → more ≡ []
