use Rattle.lw_mapped.proofs.ReadBack.{reads-back, reads-alone}
use Rattle.lw_mapped.proofs.laws.written_texts_read_back.Goals as goal

pub returns-clause-back : goal.returns-clause-back
returns-clause-back c = λ cells n frame starts certificate mapped r same. reads-back cells n frame starts certificate r mapped same

pub returns-clause-alone : goal.returns-clause-alone
returns-clause-alone c = λ cells n frame starts certificate result r is some. reads-alone cells n frame starts certificate r result is some
