use denote.Param.Send.{IsSend}
use Rattle.rank_board.specs.contracts.pulls.Pulls.{the_row}

pub send : IsSend the_row
send = record { owned = λ d vs. ((λ _. (tt, tt)), tt); leaving = λ k f vs. tt }
