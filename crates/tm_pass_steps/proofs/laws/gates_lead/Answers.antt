use Rattle.tm_pass_steps.proofs.Beginning.{gates-lead}
use Rattle.tm_pass_steps.proofs.laws.gates_lead.Goals as goal

pub returns : goal.returns
returns c = gates-lead c.args.program.now
