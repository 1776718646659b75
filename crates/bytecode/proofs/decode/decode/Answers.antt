use Rattle.std.proofs.Common.{rules}
use Rattle.bytecode.proofs.Decoding.{rest_is}
use Rattle.bytecode.proofs.decode.decode.Goals as goal

pub returns-in-0 : goal.returns-in-0
returns-in-0 c = search (rules, rest_is)

pub returns-in-196 : goal.returns-in-196
returns-in-196 c = search (rules, rest_is)

pub returns-in-16 : goal.returns-in-16
returns-in-16 c = search (rules, rest_is)

pub returns-in-18 : goal.returns-in-18
returns-in-18 c = search (rules, rest_is)

pub returns-in-21 : goal.returns-in-21
returns-in-21 c = search (rules, rest_is)

pub returns-in-54 : goal.returns-in-54
returns-in-54 c = search (rules, rest_is)

pub returns-in-87 : goal.returns-in-87
returns-in-87 c = search (rules, rest_is)

pub returns-in-89 : goal.returns-in-89
returns-in-89 c = search (rules, rest_is)

pub returns-in-95 : goal.returns-in-95
returns-in-95 c = search (rules, rest_is)

pub returns-in-96 : goal.returns-in-96
returns-in-96 c = search (rules, rest_is)

pub returns-in-100 : goal.returns-in-100
returns-in-100 c = search (rules, rest_is)

pub returns-in-126 : goal.returns-in-126
returns-in-126 c = search (rules, rest_is)

pub returns-in-128 : goal.returns-in-128
returns-in-128 c = search (rules, rest_is)

pub returns-in-132 : goal.returns-in-132
returns-in-132 c = search (rules, rest_is)

pub returns-in-153 : goal.returns-in-153
returns-in-153 c = search (rules, rest_is)

pub returns-in-155 : goal.returns-in-155
returns-in-155 c = search (rules, rest_is)

pub returns-in-159 : goal.returns-in-159
returns-in-159 c = search (rules, rest_is)

pub returns-in-167 : goal.returns-in-167
returns-in-167 c = search (rules, rest_is)

pub returns-in-172 : goal.returns-in-172
returns-in-172 c = search (rules, rest_is)

pub returns-in-177 : goal.returns-in-177
returns-in-177 c = search (rules, rest_is)

pub returns-in-182 : goal.returns-in-182
returns-in-182 c = search (rules, rest_is)

pub returns-in-240 : goal.returns-in-240
returns-in-240 c = search (rules, rest_is)

pub returns-in-241 : goal.returns-in-241
returns-in-241 c = search (rules, rest_is)

pub returns-in-242 : goal.returns-in-242
returns-in-242 c = search (rules, rest_is)

pub returns-in-250 : goal.returns-in-250
returns-in-250 c = search (rules, rest_is)

pub returns-in-255 : goal.returns-in-255
returns-in-255 c = search (rules, rest_is)
