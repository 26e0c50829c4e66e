use Rattle.std.proofs.Common.{◌≡◌, ◌≢◌, List, ℕ, length, Result, Ok, Err, IfOk, IfErr}
use Rattle.tm_lex.specs.declared.token.Token.{Token}
use Rattle.tm_lex.specs.declared.token.LexFault.{LexFault}
use Rattle.tm_lex.specs.declared.token.LexFault.TheVariants.{NoMemory}
use Rattle.tm_lex.specs.Lexing.{tokens_of}
use Rattle.tm_lex.specs.Tiling.{AreTokens, IsFirstFault, AreInOrder}
use Rattle.tm_lex.proofs.FaultLemmas.{tokens-are, fault-is}
use Rattle.tm_lex.proofs.OrderLemmas.{in-order}
use Rattle.tm_lex.proofs.lines.tokens.Goals as goal

tiled : (text : List ℕ) (r : Result (List Token) LexFault) → IfOk r (λ ts. tokens_of text ≡ Ok ts)
    → IfOk r (AreTokens text)
tiled text (Ok ts) h = tokens-are text ts h
tiled text (Err e) h = h

first : (text : List ℕ) (r : Result (List Token) LexFault) → IfErr r (λ e. e ≢ NoMemory → tokens_of text ≡ Err e)
    → IfErr r (λ e. e ≢ NoMemory → IsFirstFault text e)
first text (Ok ts) h = h
first text (Err e) h = λ other. fault-is text e (h other)

order : (text : List ℕ) (r : Result (List Token) LexFault) → IfOk r (λ ts. tokens_of text ≡ Ok ts)
    → IfOk r (λ ts. AreInOrder 0 (length text) ts)
order text (Ok ts) h = in-order text ts h
order text (Err e) h = h

pub returns-clause-tiled : goal.returns-clause-tiled
returns-clause-tiled c = tiled c.args.text.now c.read_lines.result c.read_lines.ensures.ok

pub returns-clause-first : goal.returns-clause-first
returns-clause-first c = first c.args.text.now c.read_lines.result c.read_lines.ensures.err

pub returns-clause-in_order : goal.returns-clause-in_order
returns-clause-in_order c = order c.args.text.now c.read_lines.result c.read_lines.ensures.ok
